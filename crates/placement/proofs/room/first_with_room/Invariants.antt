use Rattle.std.proofs.Common.{◌≡◌, ◌-◌}
use Rattle.model.specs.Placement.{limited, beyond}
use Rattle.program.specs.Stands.{nodes_of}
use Rattle.placement.proofs.room.first_with_room.Given as goal

-- the stages passed have no room
abbrev pub invariant-loop-stage : goal.invariant-loop-stage
invariant-loop-stage l = limited l.table (nodes_of l.row) l.stage ≡ limited l.table (nodes_of l.row) l.from

abbrev pub decreases-loop-stage : goal.decreases-loop-stage
decreases-loop-stage l = beyond (nodes_of l.row) - l.stage
