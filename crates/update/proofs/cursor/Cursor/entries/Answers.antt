use Rattle.std.proofs.Common.{◌≡◌, ℕ, ◌+◌, ◌-◌, ◌<◌, List, [], ◌∷◌, ◌++◌, vec_items, sym, ap, ◌∙◌, subst, arith}
use Rattle.std.proofs.lemmas.List.{map_push}
use Rattle.std.proofs.lemmas.Result.{err_from_is_err_and}
use Rattle.model.specs.Table as table
use Rattle.program.specs.Stands.{declarations_of, table_of}
use Rattle.table.specs.Stands.{entry_of, entries_of}
use Rattle.update.specs.Decoded.{Decoded}
use Rattle.update.specs.Decoding.{entries_at}
use Rattle.update.specs.Stands.{Refuses}
use Rattle.update.proofs.Loops.{entries_more, entries_end}
use Rattle.update.proofs.cursor.Cursor.entries.Goals as goal

pub returns-in_err-entry : goal.returns-in_err-entry
returns-in_err-entry c =
    let p = err_from_is_err_and c.from_residual.result c.from_residual.ensures.1 in
    let some : 0 < c.args.count - c.loop-turn._turn = omega (arith, c.loop-turn-test.true) in
    rw (p.1, p.2) (λ k. subst (λ (z : Decoded). Refuses c.in_err-entry.field-0.0 z)
    (sym (entries_more (declarations_of c.args.terms.declarations.now) (table_of c.args.terms.table.now) (c.args.count - c.loop-turn._turn) (entries_of (vec_items c.loop-turn.entries)) c.loop-turn.self.at c.loop-turn.self.rest.now k some)
    ∙ c.loop-turn.invariant k)
    (c.in_err-entry.ensures (λ e behind rest. entries_at (declarations_of c.args.terms.declarations.now) (table_of c.args.terms.table.now) (c.args.count - c.loop-turn._turn - 1) (entries_of (vec_items c.loop-turn.entries) ++ (e ∷ [])) behind rest k)))

pub loop-turn-preserved : goal.loop-turn-preserved
loop-turn-preserved c k =
    let some : 0 < c.args.count - c.loop-turn._turn = omega (arith, c.loop-turn-test.true) in
    let less : c.args.count - (c.loop-turn._turn + 1) ≡ c.args.count - c.loop-turn._turn - 1 = omega arith in
    ap (λ (n : ℕ). entries_at (declarations_of c.args.terms.declarations.now) (table_of c.args.terms.table.now) n (entries_of (vec_items c.push.new.self)) c.entry.new.self.at c.entry.new.self.rest.now k) less
    ∙ ap (λ (l : List table.Entry). entries_at (declarations_of c.args.terms.declarations.now) (table_of c.args.terms.table.now) (c.args.count - c.loop-turn._turn - 1) l c.entry.new.self.at c.entry.new.self.rest.now k)
    (ap entries_of c.in_ok-push.ensures.items ∙ map_push entry_of (vec_items c.loop-turn.entries) c.in_ok-entry.entry)
    ∙ sym (c.in_ok-entry.ensures (λ e behind rest. entries_at (declarations_of c.args.terms.declarations.now) (table_of c.args.terms.table.now) (c.args.count - c.loop-turn._turn - 1) (entries_of (vec_items c.loop-turn.entries) ++ (e ∷ [])) behind rest k))
    ∙ sym (entries_more (declarations_of c.args.terms.declarations.now) (table_of c.args.terms.table.now) (c.args.count - c.loop-turn._turn) (entries_of (vec_items c.loop-turn.entries)) c.loop-turn.self.at c.loop-turn.self.rest.now k some)
    ∙ c.loop-turn.invariant k

pub returns : goal.returns
returns c k =
    let none : c.args.count - c.loop-turn._turn ≡ 0 = omega (arith, c.loop-turn-test.false) in
    sym (c.loop-turn.invariant k)
    ∙ entries_end (declarations_of c.args.terms.declarations.now) (table_of c.args.terms.table.now) (c.args.count - c.loop-turn._turn) (entries_of (vec_items c.loop-turn.entries)) c.loop-turn.self.at c.loop-turn.self.rest.now k none
