-- Headers and their fields.
use Rattle.std.specs.Prelude.{◌≡◌, ℕ, ◌+◌, ◌%◌, ◌<◌, ◌≤◌, ◌≢◌, List, [], ◌∷◌, ◌++◌, length, codes, slice_set}
use Rattle.source.specs.Names.{find, find_in}
use Rattle.source.specs.State.{Names}
use Rattle.grammar.specs.Syntax.{Declared}
use Rattle.grammar.specs.Lookup.{New}
use Rattle.grammar.specs.Program.{Program}

-- `out` is field 0, so the fields of headers are numbered from 1
abbrev pub next_field : Names → ℕ
next_field n = length n.fields + 1

-- header h has one more field
abbrev pub with_field : ℕ → Declared → Names → Names
with_field h f n = record {
  headers = n.headers;
  fields = n.fields ++ record { name = f.name; header = h; number = next_field n } ∷ [];
  widths = slice_set n.widths (next_field n) f.width;
  tables = n.tables;
}

abbrev pub with_fields : ℕ → List Declared → Names → Names
with_fields h [] n = n
with_fields h (f ∷ fs) n = with_fields h fs (with_field h f n)

pub record GoodField (n : Names) (h : ℕ) (f : Declared) : Type 0 where
  pub other : f.name ≢ codes "out"
  pub new : New (find_in n.fields h f.name) f.name
  pub room : next_field n < 64
  pub wide : 0 < f.width
  pub narrow : f.width ≤ 32

-- each field is good among those before it
abbrev pub GoodFields : Names → ℕ → List Declared → Type 0
GoodFields n h [] = Unit {0}
GoodFields n h (f ∷ fs) = GoodField n h f × GoodFields (with_field h f n) h fs

abbrev pub bits : List Declared → ℕ
bits [] = 0
bits (f ∷ fs) = f.width + bits fs

abbrev pub next_header : Names → ℕ
next_header n = length n.headers

abbrev pub with_header : List ℕ → Names → Names
with_header w n = record {
  headers = n.headers ++ record { name = w; number = next_header n } ∷ [];
  fields = n.fields;
  widths = n.widths;
  tables = n.tables;
}

pub record GoodHeader (n : Names) (w : List ℕ) (fs : List Declared) : Type 0 where
  pub new : New (find n.headers w) w
  pub room : next_header n < 8
  pub fields : GoodFields (with_header w n) (next_header n) fs
  pub some : 0 < bits fs
  pub whole : bits fs % 8 ≡ 0
  pub most : bits fs ≤ 256

abbrev pub add_header : List ℕ → List Declared → Program → Program
add_header w fs p = record {
  names = with_fields (next_header p.names) fs (with_header w p.names);
  routes = p.routes;
  tables = p.tables;
  done = p.done;
}
