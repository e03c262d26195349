-- From a source to a program that is placed, or to the code and the offset of its first fault.
use Rattle.std.specs.Prelude.{ℕ, List}
use Rattle.model.specs.Node.{Node}
use Rattle.model.specs.Stopping as stopping
use Rattle.source.specs.Faults.{answer_of}
use Rattle.source.specs.Reading as reading
use Rattle.compiler.specs.Program.{Program, paths_of}
use Rattle.compiler.specs.Packaging.{packaged}

-- a program and its row of nodes; or a refusal
pub data Compiled : Type 0 where
  Accepted : Program → List Node → Compiled
  Refused : (code offset : ℕ) → Compiled

abbrev pub placed : Program → stopping.Verdict → Compiled
placed p (stopping.Placed row) = Accepted p row
placed p (stopping.Refused o) = Refused 10 o

-- a source that was read whole is placed on twelve stages, at most 512 nodes
abbrev pub after_reading : reading.Outcome → Compiled
after_reading (reading.taken d) = placed (packaged d) (stopping.placement 12 512 (paths_of (packaged d)))
after_reading (reading.refused f) = Refused (answer_of f).code (answer_of f).offset

abbrev pub compiled : List ℕ → Compiled
compiled source = after_reading (reading.read_source source)
