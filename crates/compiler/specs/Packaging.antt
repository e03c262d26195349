-- The program that a source gives, from what was read of it.
use Rattle.std.specs.Prelude.{ℕ, zero, suc, ◌+◌, cond, List, [], ◌∷◌, map, length, Some, None, Option, ◌==◌, nat_lt, slice_index, slice_index_or}
use Rattle.model.specs.Declarations.{Declarations}
use Rattle.model.specs.Statements as statements
use Rattle.program.specs.Stands.{undeclared}
use Rattle.packet.specs.Header as packet
use Rattle.source.specs.Names.{Entry, Field, find}
use Rattle.source.specs.State.{Next, Ends, Header, Later, Never, Choice, Doing, Act, Apply, If, Skip, Row, Seen}
use Rattle.compiler.specs.Program.{Format, Program}

-- how many fields a header has
unfoldable pub fields_in : ℕ → List Field → ℕ
fields_in h [] = 0
fields_in h (f ∷ fs) = cond (f.header == h) 1 0 + fields_in h fs

-- how many fields the headers before it have
unfoldable pub fields_before : ℕ → List Field → ℕ
fields_before h [] = 0
fields_before h (f ∷ fs) = cond (nat_lt f.header h) 1 0 + fields_before h fs

abbrev pub found : Option ℕ → packet.Next
found (Some k) = packet.Then k
found None = packet.End

-- what a choice names; one that was named before it was declared is looked up now
abbrev pub follow : List Entry → Next → packet.Next
follow hs Ends = packet.End
follow hs (Header k) = packet.Then k
follow hs (Later w at) = found (find hs w)
follow hs (Never at) = packet.End

abbrev pub choice : List Entry → Choice → packet.Choice
choice hs c = record { value = c.value; next = follow hs c.next }

-- the choices of one header, in the order of the source
unfoldable pub choices_of : List Entry → ℕ → List Choice → List packet.Choice
choices_of hs h [] = []
choices_of hs h (c ∷ cs) = cond (c.header == h) (choice hs c ∷ choices_of hs h cs) (choices_of hs h cs)

-- the choosing field; where there is no `after` it does not matter which
abbrev pub chooser : Option ℕ → ℕ
chooser (Some f) = f
chooser None = 0

-- there are choices only where there is an `after`
abbrev pub if_after : Option ℕ → List packet.Choice → List packet.Choice
if_after (Some f) cs = cs
if_after None cs = []

-- `out` is field 0, and the fields of headers follow it in the order of the source
abbrev pub header : Seen → ℕ → packet.Header
header d h = record {
  first = fields_before h d.names.fields + 1;
  count = fields_in h d.names.fields;
  by = chooser (slice_index_or d.routes.by h None);
  choices = if_after (slice_index_or d.routes.by h None) (choices_of d.names.headers h d.routes.choices);
}

-- so many headers, from a number on
unfoldable pub headers_from : Seen → ℕ → ℕ → List packet.Header
headers_from d h zero = []
headers_from d h (suc n) = header d h ∷ headers_from d (h + 1) n

abbrev pub kind : Doing → statements.Kind
kind (Act a) = statements.Acts a
kind (Apply t) = statements.Applies t
kind (If c n) = statements.Forks c n
kind (Skip n) = statements.Skips n

abbrev pub statement : Row → statements.Statement
statement r = statements.statement r.offset (kind r.doing)

abbrev pub declarations : Seen → Declarations
declarations d = record {
  width = λ f. slice_index d.names.widths f;
  table = λ n. slice_index_or d.tables.declared n undeclared;
}

abbrev pub or_first : Option ℕ → ℕ
or_first (Some h) = h
or_first None = 0

abbrev pub format : Seen → Format
format d = record {
  headers = headers_from d 0 (length d.names.headers);
  first = or_first d.routes.first;
  declarations = declarations d;
  tables = length d.tables.declared;
}

abbrev pub packaged : Seen → Program
packaged d = record { format = format d; statements = map statement d.body.rows; end = d.body.end }
