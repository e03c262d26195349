-- Names that are declared, and what they stand for.
use Rattle.std.specs.Prelude.{ℕ, cond, ◌&&◌, List, [], ◌∷◌, map, Some, None, Option, ◌==◌}
use Rattle.std.specs.Str.{bytes_eq}
use Rattle.few.specs.Few.{items_of}
use Rattle.program.specs.declared.field.No.{No}
use Rattle.source.specs.declared.name.Name.{Name}
use Rattle.source.specs.declared.name.Named.{Named}
use Rattle.source.specs.declared.name.FieldName.{FieldName}

-- a header or a table: its name and its number
pub record Entry : Type 0 where
  pub name : List ℕ
  pub number : ℕ

-- a field: its name, the number of its header, and its own number
pub record Field : Type 0 where
  pub name : List ℕ
  pub header : ℕ
  pub number : ℕ

-- the number of the first of a name
unfoldable pub find : List Entry → List ℕ → Option ℕ
find [] w = None
find (e ∷ es) w = cond (bytes_eq e.name w) (Some e.number) (find es w)

-- the number of the field of a name in one header
unfoldable pub find_in : List Field → ℕ → List ℕ → Option ℕ
find_in [] h w = None
find_in (f ∷ fs) h w = cond (f.header == h && bytes_eq f.name w) (Some f.number) (find_in fs h w)

-- one that was found before stays the only one if no other has the name
unfoldable pub only_behind : Option ℕ → List Field → List ℕ → Option ℕ
only_behind o [] w = o
only_behind None (f ∷ fs) w = cond (bytes_eq f.name w) (only_behind (Some f.number) fs w) (only_behind None fs w)
only_behind (Some n) (f ∷ fs) w = cond (bytes_eq f.name w) None (only_behind (Some n) fs w)

-- the one field of a name among all headers
abbrev pub only : List Field → List ℕ → Option ℕ
only fs w = only_behind None fs w

-- what the code's names stand for
abbrev pub name_of : Name → List ℕ
name_of n = items_of n.chars

abbrev pub entry_of : {n : ℕ} → Named n → Entry
entry_of e = record { name = name_of e.name; number = e.no.at }

abbrev pub field_of : FieldName → Field
field_of f = record { name = name_of f.name; header = f.header.at; number = f.no.at }

abbrev pub entries_of : {n : ℕ} → List (Named n) → List Entry
entries_of es = map entry_of es

abbrev pub fields_of : List FieldName → List Field
fields_of fs = map field_of fs

abbrev pub number_of : {n : ℕ} → Option (No n) → Option ℕ
number_of (Some x) = Some x.at
number_of None = None
