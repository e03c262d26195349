use Rattle.std.proofs.Common.{◌≡◌, length}
use Rattle.pipeline.specs.Stands.{versions_of, stored_in}
use Rattle.pipeline.proofs.Shift.{order, state}
use Rattle.pipeline.proofs.slot.Slots.advance.Given as goal

-- no place is lost, and what has moved on with what is still to come is what came with the work on all
abbrev pub invariant-loop-stage : goal.invariant-loop-stage
invariant-loop-stage l =
    (length l.self.row ≡ 12) × (length l.initial.self.row ≡ 12) ×
    (order l.stage l.self.row l.carry ≡ order 0 l.initial.self.row l.initial.carry) ×
    (state (versions_of l.versions) l.stage (stored_in l.store) l.self.row l.carry
    ≡ state (versions_of l.versions) 0 (stored_in l.initial.store) l.initial.self.row l.initial.carry)
