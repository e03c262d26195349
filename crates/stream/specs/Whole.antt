-- The whole: bytes in, bytes out.
use Rattle.std.specs.Prelude.{◌≡◌, ℕ, List, [], ◌++◌}
use Rattle.frames.specs.Reading.{Read, Empty, Pause, Whole, Cut, Unknown, read}
use Rattle.stream.specs.Frames.{Frame, parts}
use Rattle.stream.specs.Writing.{cut_short}
use Rattle.stream.specs.Machine.{Machine}
use Rattle.stream.specs.Answering.{Mode, Unloaded, Running, Stopped, answers, behind}
use Rattle.stream.specs.Machines.{pipeline, twelve_later}

-- the input has ended, and these bytes are left: they are no whole frame
abbrev pub left_over : Read → List ℕ
left_over Empty = []
left_over (Pause rest) = []
left_over (Whole k body rest) = []
left_over (Cut k) = cut_short k
left_over Unknown = []

module _ {S : Type 0} where
  -- what is written at the end of the input
  abbrev pub last_words : Mode S → List ℕ → List ℕ
  last_words Unloaded bs = left_over (read bs)
  last_words (Running p s) bs = left_over (read bs)
  last_words Stopped bs = []

  -- what is written for a whole input
  abbrev pub written : Machine S → List ℕ → List ℕ
  written m input = answers m Unloaded (parts input).frames ++ last_words (behind m Unloaded (parts input).frames) (parts input).left

-- what the switch writes
abbrev pub served : List ℕ → List ℕ
served input = written pipeline input

-- what is meant, with no pipeline at all
abbrev pub meant : List ℕ → List ℕ
meant input = written twelve_later input

-- The theorem of the whole: for every input, cut or damaged as it may be, the switch writes what is meant
abbrev pub ServedAsMeant : Type 0
ServedAsMeant = (input : List ℕ) → served input ≡ meant input

-- the same for any frames, also where some were refused for want of memory
abbrev pub FramesAsMeant : Type 0
FramesAsMeant = (fs : List Frame) → answers pipeline Unloaded fs ≡ answers twelve_later Unloaded fs
