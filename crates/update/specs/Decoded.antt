-- What decoding an update comes to.
use Rattle.std.specs.Prelude.{ℕ, List}
use Rattle.model.specs.Version.{Edit}

-- why an update is refused, each with the offset of the number concerned
pub data Fault : Type 0 where
  RunsOut : ℕ → Fault
  LeftOver : ℕ → Fault
  NoAction : ℕ → Fault
  NoOperand : ℕ → Fault
  NoField : ℕ → Fault
  TooWide : ℕ → Fault
  NoTable : ℕ → Fault
  TableTwice : ℕ → Fault
  TooManyEntries : ℕ → Fault
  TooManyActions : ℕ → Fault
  NotItsField : ℕ → Fault

pub data Decoded : Type 0 where
  Taken : List Edit → Decoded
  Refused : Fault → Decoded

-- what is done with something that was read: the offset behind it and the bytes that are left follow it
abbrev pub Then : Type 0 → Type 0
Then A = A → ℕ → List ℕ → Decoded
