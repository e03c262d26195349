-- What is done about the front of a stream of frames while no program is loaded.
use Rattle.std.specs.Prelude.{ℕ, Bool, cond, List, []}
use Rattle.frames.specs.declared.kind.Kind.{Kind}
use Rattle.frames.specs.declared.kind.Kind.TheVariants.{Source, Update, Packet}
use Rattle.frames.specs.declared.answer.Answer.{Answer}
use Rattle.frames.specs.declared.answer.Answer.TheVariants as answer
use Rattle.frames.specs.declared.served.Served.{Served}
use Rattle.frames.specs.declared.served.Served.TheVariants.{More, Frame, End, AtSource}
use Rattle.frames.specs.Answering.{written}
use Rattle.frames.specs.Reading.{Read, Empty, Pause, Whole, Cut, Unknown, read, size}

-- how far it goes, and the bytes that are written
pub record Done : Type 0 where
  pub result : Served
  pub writes : List ℕ

-- nothing is written
abbrev pub silent : Served → Done
silent s = record { result = s; writes = [] }

-- an answer is written
abbrev pub answers : Answer → Served → Done
answers a s = record { result = s; writes = written a }

-- a whole frame of so many bytes: what needs a program is refused
abbrev pub on_whole : Kind → ℕ → Done
on_whole Source n = silent AtSource
on_whole Update n = answers answer.UpdateWithoutProgram (Frame n)
on_whole Packet n = answers answer.PacketWithoutProgram (Frame n)

-- a frame that is not all there: it is at fault if the input has ended, and else the rest is awaited
abbrev pub on_cut : Kind → Bool → Done
on_cut k ended = cond ended (answers (answer.Cut k) End) (silent More)

-- what is done about this front
abbrev pub on_front : Read → Bool → Done
on_front Empty ended = silent (cond ended End More)
on_front (Pause rest) ended = silent (Frame 1)
on_front (Whole k body rest) ended = on_whole k (size k body)
on_front (Cut k) ended = on_cut k ended
on_front Unknown ended = answers answer.UnknownKind End

-- what is done about these bytes, which are all that come if the input has ended
abbrev pub served : List ℕ → Bool → Done
served bs ended = on_front (read bs) ended
