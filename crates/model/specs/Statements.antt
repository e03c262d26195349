-- A program as a row of statements in the order of the source, with forward jumps, and the tree of paths that it stands for.
use Rattle.std.specs.Prelude.{ℕ, ◌+◌, List, [], ◌∷◌, ◌++◌, length, slice_index_or}
use Rattle.model.specs.Action.{Test, Action}
use Rattle.model.specs.Paths.{Paths, Stop, Apply, Branch, Act}
use Rattle.model.specs.Blocks.{Block, Done, Table, Single, If}

-- an action; a table; an if, whose yes block follows and whose no block begins so many statements past the next; a skip past so many statements
pub data Kind : Type 0 where
  Acts : Action → Kind
  Applies : (table : ℕ) → Kind
  Forks : Test → (past : ℕ) → Kind
  Skips : (past : ℕ) → Kind

pub record Statement : Type 0 where
  pub offset : ℕ
  pub kind : Kind

abbrev pub statement : ℕ → Kind → Statement
statement o k = record { offset = o; kind = k }

-- of the paths from each of the statements that follow, those past so many of these; past the last the program is at its end
abbrev pub past : ℕ → List Paths → ℕ → Paths
past end following n = slice_index_or following n (Stop end)

-- the paths from a statement on, given those from each that follows
abbrev pub paths_of_kind : ℕ → ℕ → Kind → List Paths → Paths
paths_of_kind end o (Acts a) following = Act o a (past end following 0)
paths_of_kind end o (Applies n) following = Apply o n (past end following 0)
paths_of_kind end o (Forks c n) following = Branch o c (past end following 0) (past end following n)
paths_of_kind end o (Skips n) following = past end following n

-- the paths from each statement on
unfoldable pub paths_from_each : ℕ → List Statement → List Paths
paths_from_each end [] = []
paths_from_each end (x ∷ xs) = paths_of_kind end x.offset x.kind (paths_from_each end xs) ∷ paths_from_each end xs

-- the paths from the statement at index i on
abbrev pub paths_at : ℕ → List Statement → ℕ → Paths
paths_at end xs i = past end (paths_from_each end xs) i

-- the paths of a whole program; end: the offset at which the program ends
abbrev pub program_of : ℕ → List Statement → Paths
program_of end xs = paths_at end xs 0

-- blocks in blocks as a row: behind a yes block stands a skip past the no block
unfoldable pub row_of : Block → List Statement
row_of Done = []
row_of (Table o n rest) = statement o (Applies n) ∷ row_of rest
row_of (Single o a rest) = statement o (Acts a) ∷ row_of rest
row_of (If o c yes-block no_block rest) =
    statement o (Forks c (length (row_of yes-block) + 1)) ∷
    (row_of yes-block ++ (statement o (Skips (length (row_of no_block))) ∷ (row_of no_block ++ row_of rest)))
