use Rattle.std.proofs.Common.{◌≡◌, true}
use Rattle.table.proofs.Stored.{all, Same}
use Rattle.table.proofs.store.Tables.forget.Given as goal

-- the newest version stays, and as far as the loop has come the one before is the same
abbrev pub invariant-loop-rows : goal.invariant-loop-rows
invariant-loop-rows l = (all true l.rows-items ≡ all true l.initial.rows-items) × Same l.rows-index l.rows-items
