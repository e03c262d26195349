use Rattle.std.proofs.Common.{◌≡◌, true, false, List, [], vec_items, sym, ap, ◌∙◌}
use Rattle.std.specs.Vec.Iter.{into_iter_items}
use Rattle.std.proofs.lemmas.List.{nil_from_length}
use Rattle.model.specs.Version.{edited_all}
use Rattle.table.specs.Stands.{tables_of, edits_of}
use Rattle.table.specs.declared.entry.Edit.{Edit}
use Rattle.table.proofs.store.Tables.update.Goals as goal

pub loop-edit-preserved : goal.loop-edit-preserved
unfolding edited_all
loop-edit-preserved c = (
  c.give.ensures.before ∙ c.loop-edit.invariant.0,
  ap (edited_all (edits_of (into_iter_items c.next.new.self))) c.give.ensures.newest
      ∙ ap (λ (gs : List Edit). edited_all (edits_of gs) (tables_of c.loop-edit.self true)) (sym c.in-Some.ensures.steps.0)
      ∙ c.loop-edit.invariant.1,
)

pub returns : goal.returns
unfolding edited_all
returns c =
    let none : into_iter_items c.loop-edit.edit-iterator ≡ [] =
    nil_from_length (into_iter_items c.loop-edit.edit-iterator) (sym c.loop-edit.edit-iterator.rest.ok.0 ∙ c.in-None.ensures.steps.0) in
    record {
      newest = ap (λ (gs : List Edit). edited_all (edits_of gs) (tables_of c.loop-edit.self true)) (sym none)
          ∙ c.loop-edit.invariant.1
          ∙ ap (λ (gs : List Edit). edited_all (edits_of gs) (tables_of c.forget.new.self true)) c.into_iter-edit-iterator.ensures.into_iter_gives.0
          ∙ ap (edited_all (edits_of (vec_items c.args.edits))) (c.forget.ensures true);
      before = c.loop-edit.invariant.0 ∙ c.forget.ensures false;
    }
