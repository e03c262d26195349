use Rattle.std.proofs.Common.{◌≡◌, drop}
use Rattle.model.specs.Packet.{Packet}
use Rattle.model.specs.Action.{acts}
use Rattle.program.specs.Stands.{over, declarations_of}
use Rattle.table.specs.Stands.{actions_of}
use Rattle.table.proofs.lookup.act_all.Given as goal

-- what is left to do makes of the fields now what all makes of them as they came
abbrev pub invariant-loop-action : goal.invariant-loop-action
invariant-loop-action l = (base : Packet) →
    acts (declarations_of l.declarations) (actions_of (drop l.action-index l.actions)) (over l.fields base)
    ≡ acts (declarations_of l.declarations) (actions_of l.actions) (over l.initial.fields base)
