-- When two placements print alike: only if they are the same.
use Rattle.std.specs.Prelude.{◌≡◌, ℕ, ◌^◌, ◌<◌, Bool, true, false, not, ◌&&◌, List, [], ◌∷◌, length, ◌==◌, nat_le, slice_index_or}
use Rattle.model.specs.Action.{Operand, Field, Number, Test, Equals, Less, Action, Set, Add}
use Rattle.model.specs.Node.{Does, Halt, Look, Ask, Do, Node}
use Rattle.listing.specs.Listing.{Names, listed}

-- no byte is c
abbrev pub without : ℕ → List ℕ → Bool
without c [] = true
without c (x ∷ xs) = not (x == c) && without c xs

abbrev pub digits_only : List ℕ → Bool
digits_only [] = true
digits_only (x ∷ xs) = nat_le 48 x && nat_le x 57 && digits_only xs

-- a name is no number, and has neither a space nor an end of line in it
pub record IsName (name : List ℕ) : Type 0 where
  pub no_number : digits_only name ≡ false
  pub no_space : without 32 name ≡ true
  pub no_line : without 10 name ≡ true

-- names that tell fields apart, and tables
pub record Tells (names : List (List ℕ)) : Type 0 where
  pub each : (i : ℕ) → i < length names → IsName (slice_index_or names i [])
  pub apart : (i j : ℕ) → i < length names → j < length names → slice_index_or names i [] ≡ slice_index_or names j [] → i ≡ j

pub record Readable (ns : Names) : Type 0 where
  pub fields : Tells ns.fields
  pub tables : Tells ns.tables

-- numbers that a machine has
abbrev pub Small : ℕ → Type 0
Small n = n < 2 ^ 64

abbrev pub OperandKnown : Names → Operand → Type 0
OperandKnown ns (Field f) = f < length ns.fields
OperandKnown ns (Number n) = Small n

abbrev pub TestKnown : Names → Test → Type 0
TestKnown ns (Equals f o) = (f < length ns.fields) × OperandKnown ns o
TestKnown ns (Less f o) = (f < length ns.fields) × OperandKnown ns o

abbrev pub ActionKnown : Names → Action → Type 0
ActionKnown ns (Set f o) = (f < length ns.fields) × OperandKnown ns o
ActionKnown ns (Add f o) = (f < length ns.fields) × OperandKnown ns o

abbrev pub DoesKnown : Names → Does → Type 0
DoesKnown ns Halt = Unit {0}
DoesKnown ns (Look t i) = (t < length ns.tables) × Small i
DoesKnown ns (Ask c i j) = TestKnown ns c × Small i × Small j
DoesKnown ns (Do a i) = ActionKnown ns a × Small i

-- a halt has no stage
abbrev pub StageKnown : ℕ → Does → Type 0
StageKnown s Halt = s ≡ 0
StageKnown s (Look t i) = Small s
StageKnown s (Ask c i j) = Small s
StageKnown s (Do a i) = Small s

-- a row all of whose fields and tables have names
abbrev pub Known : Names → List Node → Type 0
Known ns [] = Unit {0}
Known ns (n ∷ more) = StageKnown n.stage n.does × DoesKnown ns n.does × Known ns more

-- two different placements never print alike
abbrev pub NeverAlike : Type 0
NeverAlike = (ns : Names) → Readable ns → (xs ys : List Node) → Known ns xs → Known ns ys → listed ns 0 xs ≡ listed ns 0 ys → xs ≡ ys
