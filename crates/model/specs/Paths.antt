-- A program as the tree of its paths. Each part has the offset of its words in the source, which means nothing to a packet.
use Rattle.std.specs.Prelude.{ℕ}
use Rattle.model.specs.Action.{Test, Action}

-- the end of a path; a table, and what follows; a branch with its yes path and its no path; an action, and what follows
pub data Paths : Type 0 where
  Stop : (offset : ℕ) → Paths
  Apply : (offset table : ℕ) → Paths → Paths
  Branch : (offset : ℕ) → Test → Paths → Paths → Paths
  Act : (offset : ℕ) → Action → Paths → Paths
