use Rattle.std.proofs.Common.{List, vec_items, sym, subst, arith}
use Rattle.table.specs.declared.rows.Rows.{Rows}
use Rattle.table.proofs.Stored.{Empty, empty_push}
use Rattle.table.proofs.store.Tables.new.Goals as goal

pub loop-table-preserved : goal.loop-table-preserved
loop-table-preserved c = (
  omega (arith, c.in_ok-push.ensures.len, c.loop-table.invariant.0),
  subst (λ (rs : List Rows). Empty rs) (sym c.in_ok-push.ensures.items)
      (empty_push (vec_items c.loop-table.all) c.empty.result c.empty.ensures.newest c.empty.ensures.before c.loop-table.invariant.1),
)
