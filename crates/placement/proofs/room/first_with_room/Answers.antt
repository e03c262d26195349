use Rattle.std.proofs.Common.{max, sym, ◌∙◌, arith}
use Rattle.model.specs.Placement.{beyond}
use Rattle.program.specs.Stands.{nodes_of}
use Rattle.model.proofs.Room.{limited_stays}
use Rattle.placement.proofs.Stages.{full_below, limited_next, limited_low}
use Rattle.placement.proofs.room.first_with_room.Goals as goal

pub overflow_add-stage : goal.overflow_add-stage
overflow_add-stage c =
    let below = full_below c.args.table (nodes_of c.args.row.now) c.loop-stage.stage (sym c.loop-stage-test.ensures) in
    omega (arith, c.requires)

pub loop-stage-preserved : goal.loop-stage-preserved
loop-stage-preserved c = limited_next c.args.table (nodes_of c.args.row.now) c.loop-stage.stage (sym c.loop-stage-test.ensures) ∙ c.loop-stage.invariant

pub loop-stage-smaller : goal.loop-stage-smaller
loop-stage-smaller c =
    let below = full_below c.args.table (nodes_of c.args.row.now) c.loop-stage.stage (sym c.loop-stage-test.ensures) in
    omega arith

pub returns : goal.returns
returns c =
    let row = nodes_of c.args.row.now in
    let first = sym (limited_stays c.args.table row c.loop-stage.stage (sym c.loop-stage-test.ensures)) ∙ c.loop-stage.invariant in
    let low = limited_low c.args.table row c.args.from (max c.args.from (beyond row)) (omega arith) (omega arith) in
    record { first = first; low = omega arith }
