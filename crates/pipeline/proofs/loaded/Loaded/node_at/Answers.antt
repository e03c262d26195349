use Rattle.std.proofs.Common.{vec_items, sym}
use Rattle.pipeline.proofs.Turns.{node_at_lem, past_end}
use Rattle.pipeline.proofs.loaded.Loaded.node_at.Goals as goal

pub returns-in-Some : goal.returns-in-Some
returns-in-Some c =
    sym (node_at_lem (vec_items c.args.self.now.nodes) c.args.at c.in-Some.node.now (rw c.deref.ensures.value at c.in-Some.ensures.lookup.3.0) (rw c.deref.ensures.value at c.in-Some.ensures.lookup.1))

pub returns-in-None : goal.returns-in-None
returns-in-None c = sym (past_end (vec_items c.args.self.now.nodes) c.args.at (rw c.deref.ensures.value at c.in-None.ensures.lookup.3))
