use Rattle.std.proofs.Common.{◌-◌, ◌≤◌, length}
use Rattle.line.proofs.stream.serve_all.Given as goal

abbrev pub invariant-loop-served : goal.invariant-loop-served
invariant-loop-served l = l.at ≤ length l.bytes

abbrev pub decreases-loop-served : goal.decreases-loop-served
decreases-loop-served l = length l.bytes - l.at
