use Rattle.std.proofs.Common.{◌≡◌, ◌-◌, length}
use Rattle.model.specs.Statements.{paths_at}
use Rattle.program.specs.Stands.{statements_of}
use Rattle.placement.proofs.step.step_at.Given as goal

-- the skips passed lead here
abbrev pub invariant-loop-at : goal.invariant-loop-at
invariant-loop-at l = paths_at l.end (statements_of l.statements) l.from ≡ paths_at l.end (statements_of l.statements) l.at

abbrev pub decreases-loop-at : goal.decreases-loop-at
decreases-loop-at l = length l.statements - l.at
