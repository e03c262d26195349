-- One packet on one stage.
use Rattle.std.specs.Prelude.{ℕ, zero, suc, Bool, cond, not, ◌&&◌, ◌==◌}
use Rattle.model.specs.Packet.{Packet}
use Rattle.model.specs.Action.{passes, act}
use Rattle.model.specs.Meaning.{apply}
use Rattle.model.specs.Node.{Node, Does, Halt, Look, Ask, Do, node_at, halts}
use Rattle.model.specs.Version.{Version}

-- a packet under way: its fields, and the index of the node at which it is
pub record Transit : Type 0 where
  pub packet : Packet
  pub at : ℕ

-- what a node does to a packet, by its kind. A table looks at the fields as they were when the packet came to the stage, seen; all else goes by the fields as they are
abbrev pub moved : Version → Packet → Does → Transit → Transit
moved v seen Halt u = u
moved v seen (Look n i) u = record { packet = apply v.declarations v.tables n seen u.packet; at = i }
moved v seen (Ask c i j) u = record { packet = u.packet; at = cond (passes c u.packet) i j }
moved v seen (Do a i) u = record { packet = act v.declarations a u.packet; at = i }

-- does stage s work on this node
abbrev pub works_on : ℕ → Node → Bool
works_on s n = n.stage == s && not (halts n.does)

-- the nodes of stage s, one after the other, at most so many
unfoldable pub on_stage : ℕ → Version → ℕ → Packet → Transit → Transit
on_stage zero v s seen u = u
on_stage (suc turns) v s seen u =
    cond (works_on s (node_at v.nodes u.at))
    (on_stage turns v s seen (moved v seen (node_at v.nodes u.at).does u))
    u
