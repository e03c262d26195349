-- The code and the offset by which a refusal of an update is told.
use Rattle.std.specs.Prelude.{ℕ}
use Rattle.update.specs.declared.fault.Fault.{Fault}
use Rattle.update.specs.declared.fault.Fault.TheVariants.{RunsOut, LeftOver, NoAction, NoOperand, NoField, TooWide, NoTable, TableTwice, TooManyEntries, TooManyActions, NotItsField, NoMemory}

abbrev pub answer_of : Fault → ℕ × ℕ
answer_of (RunsOut o) = (1, o)
answer_of (LeftOver o) = (1, o)
answer_of (NoAction o) = (2, o)
answer_of (NoOperand o) = (2, o)
answer_of (NoField o) = (3, o)
answer_of (TooWide o) = (4, o)
answer_of (NoTable o) = (11, o)
answer_of (TableTwice o) = (11, o)
answer_of (TooManyEntries o) = (11, o)
answer_of (TooManyActions o) = (11, o)
answer_of (NotItsField o) = (11, o)
answer_of NoMemory = (255, 0)
