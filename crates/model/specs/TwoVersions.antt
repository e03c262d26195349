-- Two versions in place of all: what a slot, a row of slots and a version number are, told by one bit.
use Rattle.std.specs.Prelude.{ℕ, zero, suc, ◌≤◌, Bool, false, not, List, [], ◌∷◌}
use Rattle.model.specs.Pipeline.{Slot, Free, Holds}

-- a version by one bit: every second one has the same
unfoldable pub bit : ℕ → Bool
bit zero = false
bit (suc v) = not (bit v)

abbrev pub bit_slot : Slot ℕ → Slot Bool
bit_slot Free = Free
bit_slot (Holds u v) = Holds u (bit v)

-- a packet under way has the newest version or the one before
abbrev pub NewestOrBefore : ℕ → Slot ℕ → Type 0
NewestOrBefore newest Free = Unit {0}
NewestOrBefore newest (Holds u v) = (v ≤ newest) × (newest ≤ suc v)

abbrev pub EachSlot : (Slot ℕ → Type 0) → List (Slot ℕ) → Type 0
EachSlot P [] = Unit {0}
EachSlot P (x ∷ xs) = P x × EachSlot P xs
