-- The numbers of the codes.
use Rattle.std.specs.Prelude.{ℕ}
use Rattle.codes.specs.declared.code.Code.{Code}
use Rattle.codes.specs.declared.code.Code.TheVariants.{Taken, Bytes, Unawaited, Name, Range, Header, Packet, Depth, Twice, Count, Stage, Table, Version, Program, Memory}
use Rattle.codes.specs.declared.answer.Answer.{Answer}

abbrev pub number_of : Code → ℕ
number_of Taken = 0
number_of Bytes = 1
number_of Unawaited = 2
number_of Name = 3
number_of Range = 4
number_of Header = 5
number_of Packet = 6
number_of Depth = 7
number_of Twice = 8
number_of Count = 9
number_of Stage = 10
number_of Table = 11
number_of Version = 12
number_of Program = 13
number_of Memory = 255

-- a code's number and an offset
pub record Told : Type 0 where
  pub code : ℕ
  pub offset : ℕ

abbrev pub told_of : Answer → Told
told_of a = record { code = number_of a.code; offset = a.offset }
