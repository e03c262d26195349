-- Frames that are refused change nothing.
use Rattle.std.specs.Prelude.{◌≡◌, ℕ, ◌<◌, Bool, List, ◌∷◌, ◌++◌, Err}
use Rattle.model.specs.Pipeline.{Pipeline}
use Rattle.packet.specs.declared.parsed.Refused as packet
use Rattle.compiler.specs.Program.{Format}
use Rattle.stream.specs.Answering.{Mode, Unloaded, Running, take_apart, writes, answers}
use Rattle.stream.specs.Frames.{Frame, Source, Update, Packet, Pause}
use Rattle.stream.specs.Machines.{pipeline}
use Rattle.stream.specs.Writing.{told, refused}

-- a source or an update is refused if its answer has a code other than 0
pub record Told (mode : Mode (Pipeline Bool)) (f : Frame) : Type 0 where
  pub code : ℕ
  pub offset : ℕ
  pub some : 0 < code
  pub answer : writes pipeline mode f ≡ told code offset

-- a packet is refused if there is no program, or it cannot be taken apart; the code of its answer
pub data NotTakenApart : Mode (Pipeline Bool) → List ℕ → ℕ → Type 0 where
  unloaded : (body : List ℕ) → NotTakenApart Unloaded body 13
  running : (format : Format) (c : Pipeline Bool) (body : List ℕ) (e : packet.Refused) → take_apart format body ≡ Err e → NotTakenApart (Running format c) body 6

-- with nothing in the place of a source or an update that is refused, all other output is the same
abbrev pub RefusedSource : Type 0
RefusedSource = (mode : Mode (Pipeline Bool)) (body : List ℕ) (later : List Frame) → Told mode (Source body) →
    answers pipeline mode (Source body ∷ later) ≡ writes pipeline mode (Source body) ++ answers pipeline mode later

abbrev pub RefusedUpdate : Type 0
RefusedUpdate = (mode : Mode (Pipeline Bool)) (body : List ℕ) (later : List Frame) → Told mode (Update body) →
    answers pipeline mode (Update body ∷ later) ≡ writes pipeline mode (Update body) ++ answers pipeline mode later

-- with an idle step in the place of a packet that is refused, all other output is the same
abbrev pub RefusedPacket : Type 0
RefusedPacket = (mode : Mode (Pipeline Bool)) (body : List ℕ) (code : ℕ) (later : List Frame) → NotTakenApart mode body code →
    answers pipeline mode (Packet body ∷ later) ≡ refused code ++ answers pipeline mode (Pause ∷ later)
