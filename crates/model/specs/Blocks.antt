-- A program as it is written, blocks in blocks, and the tree of paths that it stands for.
use Rattle.std.specs.Prelude.{ℕ, cond}
use Rattle.model.specs.Packet.{Packet}
use Rattle.model.specs.Declarations.{Declarations}
use Rattle.model.specs.Action.{Test, Action, passes, act}
use Rattle.model.specs.Table.{Tables}
use Rattle.model.specs.Paths.{Paths, Apply, Branch, Act}
use Rattle.model.specs.Meaning.{apply}

-- the statements of a block: none is left; or a table, an action, or an if with its two blocks, and what follows
pub data Block : Type 0 where
  Done : Block
  Table : (offset table : ℕ) → Block → Block
  Single : (offset : ℕ) → Action → Block → Block
  If : (offset : ℕ) → Test → Block → Block → Block → Block

-- the paths through a block, with x behind it: what follows an if stands behind each of its blocks
unfoldable pub paths_of : Block → Paths → Paths
paths_of Done x = x
paths_of (Table o n rest) x = Apply o n (paths_of rest x)
paths_of (Single o a rest) x = Act o a (paths_of rest x)
paths_of (If o c yes-block no_block rest) x = Branch o c (paths_of yes-block (paths_of rest x)) (paths_of no_block (paths_of rest x))

-- a block done from top to bottom
unfoldable pub done : Declarations → Block → Tables → Packet → Packet
done d Done t p = p
done d (Table o n rest) t p = done d rest t (apply d t n p p)
done d (Single o a rest) t p = done d rest t (act d a p)
done d (If o c yes-block no_block rest) t p = done d rest t (cond (passes c p) (done d yes-block t p) (done d no_block t p))
