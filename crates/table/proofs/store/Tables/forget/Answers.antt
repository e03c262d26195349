use Rattle.std.proofs.Common.{◌≡◌, ◌<◌, ◌≤◌, true, false, List, [], length, get_or, vec_items, sym, ap, ◌∙◌, arith}
use mathlib.Core.Path.{fun_ext}
use Rattle.std.proofs.lemmas.List.{with_items_is}
use Rattle.model.specs.Table.{Entry, Tables}
use Rattle.table.specs.Stands.{tables_of}
use Rattle.table.specs.declared.rows.Rows.{Rows}
use Rattle.table.proofs.Stored.{all, kept, same_more, same_all}
use Rattle.table.proofs.store.Tables.forget.Goals as goal

pub loop-rows-preserved : goal.loop-rows-preserved
loop-rows-preserved c =
    let h : c.loop-rows.rows-index < length c.loop-rows.rows-items = omega (arith, c.loop-rows.auto.rows-items, c.loop-rows-test.true) in (
      kept true c.loop-rows.rows-items c.loop-rows.rows-index c.forget.new.self c.rows-item.result h c.rows-item.is
          (c.forget.ensures.newest ∙ ap (λ (r : Rows). vec_items r.newest) (sym c.rows-item.is))
          ∙ c.loop-rows.invariant.0,
      same_more c.loop-rows.rows-index c.loop-rows.rows-items c.forget.new.self h (c.forget.ensures.before ∙ sym c.forget.ensures.newest) c.loop-rows.invariant.1,
    )

pub returns : goal.returns
returns c v =
    let short : length c.loop-rows.rows-items ≤ c.loop-rows.rows-index = omega (arith, c.loop-rows.auto.rows-items, c.loop-rows-test.false) in
    let look : List (List Entry) → Tables = λ l n. get_or l n [] in
    let newest : all true c.loop-rows.rows-items ≡ all true (vec_items c.args.self.now.all) = c.loop-rows.invariant.0 ∙ ap (all true) c.deref_mut-rows-items.ensures.value in
    let same : look (all v c.loop-rows.rows-items) ≡ tables_of c.args.self.now true = elim v as (λ z. look (all z c.loop-rows.rows-items) ≡ tables_of c.args.self.now true) [
      | true ↦ ap look newest
      | false ↦ fun_ext (λ n. same_all c.loop-rows.rows-index c.loop-rows.rows-items short c.loop-rows.invariant.1 n) ∙ ap look newest
    ] in
    let as_many : length c.loop-rows.rows-items ≡ c.args.self.now.all.len = c.loop-rows.auto.rows-items ∙ ap length c.deref_mut-rows-items.ensures.value ∙ sym c.args.self.now.all.ok.0 in
    ap (λ (rs : List Rows). look (all v rs)) (with_items_is c.args.self.now.all c.loop-rows.rows-items as_many) ∙ same
