-- Limits on a table that is declared.
use Rattle.std.specs.Prelude.{ℕ, ◌≤◌, length}
use Rattle.std.specs.List.{AllByRecursion}
use Rattle.model.specs.Declarations.{TableDeclaration}
use Rattle.limits.specs.Numbering.{Below}

-- where there are so many fields, `out` among them
pub record TableLimits (fields : ℕ) (t : TableDeclaration) : Type 0 where
  pub few_looks : length t.looks ≤ 4
  pub few_sets : length t.sets ≤ 8
  pub some_lines : 1 ≤ t.lines
  pub few_lines : t.lines ≤ 256
  pub looks_there : AllByRecursion (Below fields) t.looks
  pub sets_there : AllByRecursion (Below fields) t.sets
