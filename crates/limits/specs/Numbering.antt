-- Things that have their places in a row for numbers.
use Rattle.std.specs.Prelude.{◌≡◌, ℕ, ◌+◌, ◌<◌, ◌≤◌, List, [], ◌∷◌}
use Rattle.source.specs.Names.{Entry, Field}

-- one of so many
abbrev pub Below : ℕ → ℕ → Type 0
Below count n = n < count

-- headers, or tables, have the numbers i, i + 1, i + 2, .. in their order
unfoldable pub Numbered : ℕ → List Entry → Type 0
Numbered i [] = Unit {0}
Numbered i (e ∷ es) = (e.number ≡ i) × Numbered (i + 1) es

-- and so have fields
unfoldable pub FieldsNumbered : ℕ → List Field → Type 0
FieldsNumbered i [] = Unit {0}
FieldsNumbered i (f ∷ fs) = (f.number ≡ i) × FieldsNumbered (i + 1) fs

-- the headers of fields: none is below that of the field before, and each is one of so many
unfoldable pub Rising : (low count : ℕ) → List Field → Type 0
Rising low count [] = Unit {0}
Rising low count (f ∷ fs) = (low ≤ f.header) × ((f.header < count) × Rising f.header count fs)
