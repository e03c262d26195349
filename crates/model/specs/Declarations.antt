-- What a program declares: the widths of its fields, and its tables.
use Rattle.std.specs.Prelude.{ℕ, List}

-- how a table picks among its entries. Ternary: the first entry whose values agree with the fields on all bits of its masks
pub data MatchKind : Type 0 where
  Ternary : MatchKind

-- a table: how it matches, the fields that it looks at, the fields that its entries may change, and how many entries it may have
pub record TableDeclaration : Type 0 where
  pub kind : MatchKind
  pub looks : List ℕ
  pub sets : List ℕ
  pub lines : ℕ

-- width f: the bits of field f. table n: the n-th table
pub record Declarations : Type 0 where
  pub width : ℕ → ℕ
  pub table : ℕ → TableDeclaration
