use Rattle.std.proofs.Common.{◌-◌, length, vec_items}
use Rattle.program.specs.Stands.{statements_of}
use Rattle.placement.specs.Offsets.{lowest_of}
use Rattle.placement.proofs.Turns.{Underway}
use Rattle.placement.proofs.place.Given as goal

abbrev pub invariant-loop-pending : goal.invariant-loop-pending
invariant-loop-pending l = Underway l.end (statements_of l.statements) (vec_items l.row) (lowest_of l.noted) l.point (vec_items l.pending)

abbrev pub decreases-loop-pending : goal.decreases-loop-pending
decreases-loop-pending l = 512 - length (vec_items l.row)
