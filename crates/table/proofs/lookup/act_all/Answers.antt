use Rattle.std.proofs.Common.{◌+◌, drop, sym, ap, ◌∙◌}
use Rattle.model.specs.Packet.{Packet}
use Rattle.model.specs.Action.{acts}
use Rattle.program.specs.Stands.{over, declarations_of}
use Rattle.table.specs.Stands.{actions_of}
use Rattle.table.proofs.Fitting.{acts_more, acts_end}
use Rattle.table.proofs.lookup.act_all.Goals as goal

pub loop-action-preserved : goal.loop-action-preserved
loop-action-preserved c base =
    ap (λ (p : Packet). acts (declarations_of c.args.declarations.now) (actions_of (drop (c.loop-action.action-index + 1) c.args.actions.now)) p) (c.act.ensures base)
    ∙ sym (acts_more (declarations_of c.args.declarations.now) c.args.actions.now c.loop-action.action-index c.action-item.result (over c.loop-action.fields base) c.loop-action-test.true c.action-item.is)
    ∙ c.loop-action.invariant base

pub returns : goal.returns
returns c base =
    sym (acts_end (declarations_of c.args.declarations.now) c.args.actions.now c.loop-action.action-index (over c.loop-action.fields base) c.loop-action-test.false) ∙ c.loop-action.invariant base
