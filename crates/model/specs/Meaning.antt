-- What a program means for one packet, with given tables: it is done from top to bottom.
use Rattle.std.specs.Prelude.{ℕ, cond}
use Rattle.model.specs.Packet.{Packet}
use Rattle.model.specs.Declarations.{Declarations}
use Rattle.model.specs.Action.{passes, act, acts}
use Rattle.model.specs.Table.{Tables, taken}
use Rattle.model.specs.Paths.{Paths, Stop, Apply, Branch, Act}

-- table n is applied to a packet p and looks at the fields of seen
abbrev pub apply : Declarations → Tables → ℕ → Packet → Packet → Packet
apply d t n seen p = acts d (taken (d.table n) (t n) seen) p

unfoldable pub means : Declarations → Paths → Tables → Packet → Packet
means d (Stop o) t p = p
means d (Apply o n x) t p = means d x t (apply d t n p p)
means d (Branch o c x y) t p = cond (passes c p) (means d x t p) (means d y t p)
means d (Act o a x) t p = means d x t (act d a p)
