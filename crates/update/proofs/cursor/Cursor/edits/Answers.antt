use Rattle.std.proofs.Common.{◌≡◌, ℕ, ◌+◌, ◌-◌, ◌<◌, List, [], ◌∷◌, ◌++◌, vec_items, vec_len, sym, ap, ◌∙◌, subst, arith}
use Rattle.std.proofs.lemmas.List.{map_push}
use Rattle.std.proofs.lemmas.Result.{err_from_is_err_and}
use Rattle.model.specs.Version as version
use Rattle.program.specs.Stands.{declarations_of}
use Rattle.table.specs.Stands.{edit_of, edits_of}
use Rattle.table.specs.declared.entry.Edit.{Edit}
use Rattle.update.specs.Decoded.{Decoded}
use Rattle.update.specs.Decoding.{edit_at, edits_at}
use Rattle.update.specs.Stands.{Refuses}
use Rattle.update.proofs.Loops.{edits_more, edits_end}
use Rattle.update.proofs.cursor.Cursor.edits.Goals as goal

pub returns-in_err-edit : goal.returns-in_err-edit
returns-in_err-edit c =
    let p = err_from_is_err_and c.from_residual.result c.from_residual.ensures.1 in
    let some : 0 < c.args.count - c.loop-turn._turn = omega (arith, c.loop-turn-test.true) in
    rw (p.1, p.2) (λ k. subst (λ (z : Decoded). Refuses c.in_err-edit.field-0.0 z)
    (ap (λ (gs : List Edit). edit_at (declarations_of c.args.declarations.now) (vec_len c.args.declarations.now.tables) (edits_of gs) c.loop-turn.self.at c.loop-turn.self.rest.now (λ g behind rest. edits_at (declarations_of c.args.declarations.now) (vec_len c.args.declarations.now.tables) (c.args.count - c.loop-turn._turn - 1) (edits_of (vec_items c.loop-turn.edits) ++ (g ∷ [])) behind rest k)) c.deref.ensures.value
    ∙ sym (edits_more (declarations_of c.args.declarations.now) (vec_len c.args.declarations.now.tables) (c.args.count - c.loop-turn._turn) (edits_of (vec_items c.loop-turn.edits)) c.loop-turn.self.at c.loop-turn.self.rest.now k some)
    ∙ c.loop-turn.invariant k)
    (c.in_err-edit.ensures (λ g behind rest. edits_at (declarations_of c.args.declarations.now) (vec_len c.args.declarations.now.tables) (c.args.count - c.loop-turn._turn - 1) (edits_of (vec_items c.loop-turn.edits) ++ (g ∷ [])) behind rest k)))

pub loop-turn-preserved : goal.loop-turn-preserved
loop-turn-preserved c k =
    let some : 0 < c.args.count - c.loop-turn._turn = omega (arith, c.loop-turn-test.true) in
    let less : c.args.count - (c.loop-turn._turn + 1) ≡ c.args.count - c.loop-turn._turn - 1 = omega arith in
    ap (λ (n : ℕ). edits_at (declarations_of c.args.declarations.now) (vec_len c.args.declarations.now.tables) n (edits_of (vec_items c.push.new.self)) c.edit.new.self.at c.edit.new.self.rest.now k) less
    ∙ ap (λ (l : List version.Edit). edits_at (declarations_of c.args.declarations.now) (vec_len c.args.declarations.now.tables) (c.args.count - c.loop-turn._turn - 1) l c.edit.new.self.at c.edit.new.self.rest.now k)
    (ap edits_of c.in_ok-push.ensures.items ∙ map_push edit_of (vec_items c.loop-turn.edits) c.in_ok-edit.edit)
    ∙ sym (c.in_ok-edit.ensures (λ g behind rest. edits_at (declarations_of c.args.declarations.now) (vec_len c.args.declarations.now.tables) (c.args.count - c.loop-turn._turn - 1) (edits_of (vec_items c.loop-turn.edits) ++ (g ∷ [])) behind rest k))
    ∙ ap (λ (gs : List Edit). edit_at (declarations_of c.args.declarations.now) (vec_len c.args.declarations.now.tables) (edits_of gs) c.loop-turn.self.at c.loop-turn.self.rest.now (λ g behind rest. edits_at (declarations_of c.args.declarations.now) (vec_len c.args.declarations.now.tables) (c.args.count - c.loop-turn._turn - 1) (edits_of (vec_items c.loop-turn.edits) ++ (g ∷ [])) behind rest k)) c.deref.ensures.value
    ∙ sym (edits_more (declarations_of c.args.declarations.now) (vec_len c.args.declarations.now.tables) (c.args.count - c.loop-turn._turn) (edits_of (vec_items c.loop-turn.edits)) c.loop-turn.self.at c.loop-turn.self.rest.now k some)
    ∙ c.loop-turn.invariant k

pub returns : goal.returns
returns c k =
    let none : c.args.count - c.loop-turn._turn ≡ 0 = omega (arith, c.loop-turn-test.false) in
    sym (c.loop-turn.invariant k)
    ∙ edits_end (declarations_of c.args.declarations.now) (vec_len c.args.declarations.now.tables) (c.args.count - c.loop-turn._turn) (edits_of (vec_items c.loop-turn.edits)) c.loop-turn.self.at c.loop-turn.self.rest.now k none
