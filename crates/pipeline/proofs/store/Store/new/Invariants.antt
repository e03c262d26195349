use Rattle.std.proofs.Common.{◌≡◌, vec_len}
use Rattle.pipeline.proofs.store.Store.new.Given as goal

abbrev pub invariant-loop-place : goal.invariant-loop-place
invariant-loop-place l = vec_len l.all ≡ l._place
