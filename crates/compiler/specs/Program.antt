-- A program: all that a source says, with names replaced by numbers.
use Rattle.std.specs.Prelude.{ℕ, List}
use Rattle.model.specs.Declarations.{Declarations}
use Rattle.model.specs.Statements.{Statement, program_of}
use Rattle.model.specs.Paths.{Paths}
use Rattle.packet.specs.Header.{Header}

-- what packets and updates are read by: the headers in the order of the source and the one that comes first, the widths of fields, the tables and how many they are
pub record Format : Type 0 where
  pub headers : List Header
  pub first : ℕ
  pub declarations : Declarations
  pub tables : ℕ

-- the statements of `do`, and the offset at which it ends
pub record Program : Type 0 where
  pub format : Format
  pub statements : List Statement
  pub end : ℕ

-- the paths through a program
abbrev pub paths_of : Program → Paths
paths_of p = program_of p.end p.statements
