use Rattle.std.proofs.Common.{◌-◌, ◌≤◌, length}
use Rattle.switch.specs.Feeding.{Fed}
use Rattle.switch.specs.Stands.{mode_of}
use Rattle.switch.proofs.switch.Switch.feed.Given as goal

-- the frames so far are done
abbrev pub invariant-loop-step : goal.invariant-loop-step
invariant-loop-step l =
    Fed (mode_of l.initial.self.state) (mode_of l.self.state) l.bytes l.initial.out l.out l.used l.written
    × (l.used ≤ length l.bytes)
    × (l.written ≤ length l.out)
    × (length l.out ≤ length l.initial.out)
    × (length l.initial.out ≤ length l.out)

abbrev pub decreases-loop-step : goal.decreases-loop-step
decreases-loop-step l = length l.bytes - l.used
