use Rattle.std.proofs.Common.{◌≡◌, vec_items, vec_len}
use Rattle.table.proofs.Stored.{Empty}
use Rattle.table.proofs.store.Tables.new.Given as goal

abbrev pub invariant-loop-table : goal.invariant-loop-table
invariant-loop-table l = (vec_len l.all ≡ l._table) × Empty (vec_items l.all)
