-- Operands, tests and actions, and what they give for a packet.
use Rattle.std.specs.Prelude.{ℕ, ◌+◌, ◌%◌, ◌^◌, Bool, List, [], ◌∷◌, ◌==◌, nat_lt}
use Rattle.model.specs.Packet.{Packet, put}
use Rattle.model.specs.Declarations.{Declarations}

-- a field of the packet, or a number
pub data Operand : Type 0 where
  Field : ℕ → Operand
  Number : ℕ → Operand

-- a field equals an operand, or is less than it
pub data Test : Type 0 where
  Equals : (field : ℕ) → Operand → Test
  Less : (field : ℕ) → Operand → Test

-- set a field to an operand, or add an operand to it, modulo 2 to the field's width
pub data Action : Type 0 where
  Set : (field : ℕ) → Operand → Action
  Add : (field : ℕ) → Operand → Action

abbrev pub value : Operand → Packet → ℕ
value (Field f) p = p f
value (Number n) p = n

abbrev pub passes : Test → Packet → Bool
passes (Equals f o) p = p f == value o p
passes (Less f o) p = nat_lt (p f) (value o p)

abbrev pub act : Declarations → Action → Packet → Packet
act d (Set f o) p = put f (value o p % (2 ^ d.width f)) p
act d (Add f o) p = put f ((p f + value o p) % (2 ^ d.width f)) p

-- actions in a row, each on the fields as the one before has left them
unfoldable pub acts : Declarations → List Action → Packet → Packet
acts d [] p = p
acts d (a ∷ more) p = acts d more (act d a p)
