-- What an update is answered, and the code that stands for it.
use Rattle.std.specs.Prelude.{ℕ, Bool, true, false}

-- taken; or refused, as a packet of a version before the newest is in a slot
pub data UpdateAnswer : Type 0 where
  Taken : UpdateAnswer
  OldPacketUnderWay : UpdateAnswer

abbrev pub code_of : UpdateAnswer → ℕ
code_of Taken = 0
code_of OldPacketUnderWay = 12

abbrev pub answered : Bool → UpdateAnswer
answered true = Taken
answered false = OldPacketUnderWay
