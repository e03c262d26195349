-- Tables.
use Rattle.std.specs.Prelude.{ℕ, Bool, cond, ◌&&◌, List, [], ◌∷◌, ◌++◌, length, is_some, codes, nat_lt}
use Rattle.model.specs.Declarations.{Ternary}
use Rattle.token.specs.declared.token.Sign.TheVariants.{Open, Close, Semicolon}
use Rattle.token.specs.Tokens.{Token}
use Rattle.source.specs.declared.fault.Fault.TheVariants.{Range}
use Rattle.source.specs.Names.{Entry, find}
use Rattle.source.specs.State.{Part, Looks, Sets, Listed, Names, Seen, with_names, with_tables, TablePhase, TableName, TableOpen, LookWord, SetsWord, ListStart, LinesWord, Lines, LinesEnd, TableClose, Item, InTable}
use Rattle.source.specs.Steps.{Step, go, stop, is_sign, sign, keyword, word, number, fresh, room}
use Rattle.source.specs.Using.{field_named, behind_list}

abbrev pub table_taken : Names → List ℕ → Bool
table_taken n w = is_some (find n.tables w)

abbrev pub add_table : Entry → Seen → Seen
add_table e d = with_names (record {
  headers = d.names.headers;
  fields = d.names.fields;
  widths = d.names.widths;
  tables = d.names.tables ++ e ∷ [];
}) d

-- the table that has been read, with its lists
abbrev pub declare : ℕ → Seen → Seen
declare lines d = with_tables (record {
  looks = [];
  sets = [];
  declared = d.tables.declared ++ record { kind = Ternary; looks = d.tables.looks; sets = d.tables.sets; lines = lines } ∷ [];
}) d

abbrev pub table_name : Seen → Token → Step
table_name d x = word x (λ w. fresh (table_taken d.names w) x.at w (λ v.
    room x.at (length d.names.tables) 32 (λ n. go (InTable TableOpen) (add_table (record { name = v; number = n }) d))))

-- a field, or the end of an empty list
abbrev pub list_start : Part → Seen → Token → Step
list_start p d x = cond (is_sign Semicolon x.kind) (go (InTable (behind_list p)) d) (field_named (Listed p) d x)

abbrev pub lines : Seen → Token → Step
lines d x = number x (λ n. cond (nat_lt 0 n && nat_lt n 257) (go (InTable (LinesEnd n)) d) (stop (Range x.at)))

abbrev pub in_table : TablePhase → Seen → Token → Step
in_table TableName d x = table_name d x
in_table TableOpen d x = sign Open x (go (InTable LookWord) d)
in_table LookWord d x = keyword (codes "look") x (go (InTable (ListStart Looks)) d)
in_table SetsWord d x = keyword (codes "sets") x (go (InTable (ListStart Sets)) d)
in_table (ListStart p) d x = list_start p d x
in_table LinesWord d x = keyword (codes "lines") x (go (InTable Lines) d)
in_table Lines d x = lines d x
in_table (LinesEnd n) d x = sign Semicolon x (go (InTable (TableClose n)) d)
in_table (TableClose n) d x = sign Close x (go Item (declare n d))
