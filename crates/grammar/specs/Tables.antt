-- Tables.
use Rattle.std.specs.Prelude.{ℕ, ◌<◌, ◌≤◌, List, [], ◌∷◌, ◌++◌, map, length}
use Rattle.model.specs.Declarations.{Ternary}
use Rattle.source.specs.Names.{find}
use Rattle.source.specs.State.{Names}
use Rattle.grammar.specs.Syntax.{Reference}
use Rattle.grammar.specs.Lookup.{Known, the, New, field}
use Rattle.grammar.specs.Program.{Program}

abbrev pub fields_of : Names → List Reference → List ℕ
fields_of n rs = map (λ r. the (field n r)) rs

abbrev pub AllKnown : Names → List Reference → Type 0
AllKnown n [] = Unit {0}
AllKnown n (r ∷ rs) = Known (field n r) × AllKnown n rs

pub record GoodTable (n : Names) (w : List ℕ) (looks sets : List Reference) (lines : ℕ) : Type 0 where
  pub new : New (find n.tables w) w
  pub room : length n.tables < 32
  pub looks_known : AllKnown n looks
  pub looks_few : length looks ≤ 4
  pub sets_known : AllKnown n sets
  pub sets_few : length sets ≤ 8
  pub some : 0 < lines
  pub most : lines ≤ 256

abbrev pub add_table : List ℕ → List Reference → List Reference → ℕ → Program → Program
add_table w looks sets lines p = record {
  names = record {
    headers = p.names.headers;
    fields = p.names.fields;
    widths = p.names.widths;
    tables = p.names.tables ++ record { name = w; number = length p.names.tables } ∷ [];
  };
  routes = p.routes;
  tables = p.tables ++ record { kind = Ternary; looks = fields_of p.names looks; sets = fields_of p.names sets; lines = lines } ∷ [];
  done = p.done;
}
