-- A packet shows nowhere but in its own frame.
use Rattle.std.specs.Prelude.{◌≡◌, ℕ, List, ◌∷◌, ◌++◌, Ok}
use Rattle.model.specs.Meaning.{means}
use Rattle.model.specs.Meant.{history}
use Rattle.model.specs.Packet.{departs}
use Rattle.model.specs.Version.{empty}
use Rattle.packet.specs.Carrying.{carried}
use Rattle.packet.specs.Contents.{Contents}
use Rattle.compiler.specs.Program.{Format, paths_of}
use Rattle.stream.specs.Answering.{Unloaded, Running, take_apart, answers, behind}
use Rattle.stream.specs.Frames.{Frame, Packet}
use Rattle.stream.specs.Machines.{pipeline, Past, twelve_later}
use Rattle.stream.specs.Writing.{sent_all}

-- two outputs are the same; or they differ in one frame, which is this one in the first and that one in the second
pub data OnlyThere (this that out out' : List ℕ) : Type 0 where
  same : out ≡ out' → OnlyThere this that out out'
  differs : (before later : List ℕ) → out ≡ before ++ (this ++ later) → out' ≡ before ++ (that ++ later) → OnlyThere this that out out'

-- the frame in which a packet leaves that comes now
abbrev pub own_frame : Format → Past → Contents → List ℕ
own_frame f h k = sent_all f (departs (means h.program.format.declarations (paths_of h.program) (history 12 empty h.events).tables (carried k)))

-- With another packet in the place of one, where neither is refused, all of the output that belongs to others is the same
abbrev pub OthersUndisturbed : Type 0
OthersUndisturbed = (before later : List Frame) (f : Format) (h : Past) (x y : List ℕ) (k l : Contents) → behind twelve_later Unloaded before ≡ Running f h →
    take_apart f x ≡ Ok k → take_apart f y ≡ Ok l →
    OnlyThere (own_frame f h k) (own_frame f h l) (answers pipeline Unloaded (before ++ (Packet x ∷ later))) (answers pipeline Unloaded (before ++ (Packet y ∷ later)))
