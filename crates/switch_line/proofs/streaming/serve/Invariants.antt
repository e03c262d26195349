use Rattle.std.proofs.Common.{◌≡◌, length}
use Rattle.switch_line.proofs.streaming.serve.Given as goal

-- the place for answers keeps its size
abbrev pub invariant-loop : goal.invariant-loop
invariant-loop l = length l.out ≡ length l.initial.out
