-- Limits on what is named: how many, which numbers, which names, and how wide a field.
use Rattle.std.specs.Prelude.{◌≡◌, ℕ, ◌<◌, ◌≤◌, false, List, [], ◌∷◌, length, ◌≢◌, slice_index, slice_index_or}
use Rattle.std.specs.List.{AllByRecursion}
use Rattle.source.specs.Names.{Entry, Field}
use Rattle.source.specs.Declaring.{is_out}
use Rattle.limits.specs.Numbering.{Numbered, FieldsNumbered, Rising}

-- a name has from 1 to 24 bytes
pub record NameLimits (w : List ℕ) : Type 0 where
  pub some : 1 ≤ length w
  pub short : length w ≤ 24

abbrev pub EntryNameLimits : Entry → Type 0
EntryNameLimits e = NameLimits e.name

-- no field is called `out`
pub record FieldNameLimits (f : Field) : Type 0 where
  pub name : NameLimits f.name
  pub not_out : is_out f.name ≡ false

-- another has another name; of a field, if both are of one header
abbrev pub Unlike : Entry → Entry → Type 0
Unlike e f = f.name ≡ e.name → ⊥

abbrev pub FieldUnlike : Field → Field → Type 0
FieldUnlike f g = g.header ≡ f.header → g.name ≢ f.name

unfoldable pub Apart : List Entry → Type 0
Apart [] = Unit {0}
Apart (e ∷ es) = AllByRecursion (Unlike e) es × Apart es

unfoldable pub FieldsApart : List Field → Type 0
FieldsApart [] = Unit {0}
FieldsApart (f ∷ fs) = AllByRecursion (FieldUnlike f) fs × FieldsApart fs

-- headers, or tables, up to a limit
pub record EntryLimits (limit : ℕ) (es : List Entry) : Type 0 where
  pub few : length es ≤ limit
  pub numbered : Numbered 0 es
  pub names : AllByRecursion EntryNameLimits es
  pub apart : Apart es

-- fields but for `out`, whose number is 0: those of a header stand together, in the order of the headers, of which there are so many
pub record FieldLimits (headers : ℕ) (fs : List Field) : Type 0 where
  pub few : length fs ≤ 63
  pub numbered : FieldsNumbered 1 fs
  pub rising : Rising 0 headers fs
  pub names : AllByRecursion FieldNameLimits fs
  pub apart : FieldsApart fs

-- the widths by a field's number, where so many are declared behind `out`: that one has 8 bits, and a field that is not declared has none
pub record WidthLimits (declared : ℕ) (widths : List ℕ) : Type 0 where
  pub each : length widths ≡ 64
  pub narrow : (f : ℕ) → slice_index widths f ≤ 32
  pub out : slice_index_or widths 0 0 ≡ 8
  pub others : (f : ℕ) → declared < f → slice_index widths f ≡ 0

-- each of so many fields behind `out` has at least one bit
abbrev pub Wide : ℕ → List ℕ → Type 0
Wide declared widths = (f : ℕ) → 1 ≤ f → f ≤ declared → 1 ≤ slice_index widths f
