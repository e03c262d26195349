-- No table is applied twice on a path through a program.
use Rattle.std.specs.Prelude.{◌≡◌, ℕ, List, ◌∷◌, map}
use Rattle.std.specs.List.{AllByRecursion}
use Rattle.model.specs.Paths.{Paths, Stop, Apply, Branch, Act}
use Rattle.model.specs.Statements as statements
use Rattle.model.specs.Statements.{Statement, statement, program_of}
use Rattle.source.specs.State as state
use Rattle.source.specs.State.{Doing, Row}

-- the rows that are read, as statements of the model
abbrev pub kind_of : Doing → statements.Kind
kind_of (state.Act a) = statements.Acts a
kind_of (state.Apply t) = statements.Applies t
kind_of (state.If c past) = statements.Forks c past
kind_of (state.Skip past) = statements.Skips past

abbrev pub statement_of : Row → Statement
statement_of r = statement r.offset (kind_of r.doing)

-- the paths through a program whose `do` ends at an offset
abbrev pub paths_through : ℕ → List Row → Paths
paths_through end rows = program_of end (map statement_of rows)

abbrev pub Other : ℕ → ℕ → Type 0
Other t u = u ≡ t → ⊥

-- no table stands twice, nor one that was applied before
unfoldable pub Once : (before : List ℕ) → Paths → Type 0
Once before (Stop o) = Unit {0}
Once before (Apply o t x) = AllByRecursion (Other t) before × Once (t ∷ before) x
Once before (Branch o c x y) = Once before x × Once before y
Once before (Act o a x) = Once before x
