-- Entries of a table, and which of them a packet takes.
use Rattle.std.specs.Prelude.{ℕ, zero, suc, Bool, true, cond, ◌&&◌, List, [], ◌∷◌, ◌==◌, bit_and, slice_index_or}
use Rattle.model.specs.Packet.{Packet}
use Rattle.model.specs.Declarations.{MatchKind, Ternary, TableDeclaration}
use Rattle.model.specs.Action.{Action}

-- what an entry wants of one field: its bits under the mask are those of the value
pub record Pattern : Type 0 where
  pub value : ℕ
  pub mask : ℕ

-- a pattern for each field that the table looks at, in that order, and what is done
pub record Entry : Type 0 where
  pub patterns : List Pattern
  pub actions : List Action

-- the entries of each table, by its number
abbrev pub Tables : Type 0
Tables = ℕ → List Entry

-- both sides are masked
abbrev pub agrees : Pattern → ℕ → Bool
agrees w x = bit_and x w.mask == bit_and w.value w.mask

-- every field that is looked at agrees with its pattern
unfoldable pub fits : List ℕ → List Pattern → Packet → Bool
fits [] ws p = true
fits (f ∷ fs) [] p = true
fits (f ∷ fs) (w ∷ ws) p = agrees w (p f) && fits fs ws p

-- the index of the first entry that fits; if none does, the count of entries
unfoldable pub first_fit : List ℕ → List Entry → Packet → ℕ
first_fit fs [] p = zero
first_fit fs (e ∷ es) p = cond (fits fs e.patterns p) zero (suc (first_fit fs es p))

-- which entry is taken, by the kind of table: its index, or one past the last if none is
abbrev pub chosen_by : MatchKind → List ℕ → List Entry → Packet → ℕ
chosen_by Ternary fs es p = first_fit fs es p

abbrev pub chosen : TableDeclaration → List Entry → Packet → ℕ
chosen t es p = chosen_by t.kind t.looks es p

-- stands for the entry where none is taken: nothing is done
abbrev pub no_entry : Entry
no_entry = record { patterns = []; actions = [] }

-- what a table with these entries has done to a packet
abbrev pub taken : TableDeclaration → List Entry → Packet → List Action
taken t es p = (slice_index_or es (chosen t es p) no_entry).actions
