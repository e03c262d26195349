-- What a packet goes by: declarations, nodes and the tables' entries, as one version; and how an update makes the next one.
use Rattle.std.specs.Prelude.{ℕ, cond, List, [], ◌∷◌, ◌==◌}
use Rattle.model.specs.Declarations.{Declarations}
use Rattle.model.specs.Table.{Entry, Tables}
use Rattle.model.specs.Node.{Node}

pub record Version : Type 0 where
  pub declarations : Declarations
  pub nodes : List Node
  pub tables : Tables

-- one edit of an update: all entries of a table are replaced
pub data Edit : Type 0 where
  Replace : (table : ℕ) → List Entry → Edit

abbrev pub edited : Edit → Tables → Tables
edited (Replace n es) t m = cond (m == n) es (t m)

unfoldable pub edited_all : List Edit → Tables → Tables
edited_all [] t = t
edited_all (g ∷ gs) t = edited_all gs (edited g t)

abbrev pub updated : List Edit → Version → Version
updated gs v = record { declarations = v.declarations; nodes = v.nodes; tables = edited_all gs v.tables }

-- before any update tables are empty
abbrev pub empty : Tables
empty n = []
