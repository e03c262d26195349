use Rattle.std.proofs.Common.{◌≡◌, ℕ, ◌+◌, ◌-◌, ◌<◌, List, [], ◌∷◌, ◌++◌, length, take, set, sym, ap, ◌∙◌, subst, arith}
use Rattle.std.proofs.lemmas.List.{length-set, take_more_set, map_push}
use Rattle.model.specs.Action as action
use Rattle.program.specs.Stands.{declarations_of, table_of, action_of}
use Rattle.table.specs.Stands.{actions_of}
use Rattle.update.specs.Decoded.{Decoded, Then}
use Rattle.update.specs.Decoding.{actions_at}
use Rattle.update.specs.Stands.{Refuses, actions_listed}
use Rattle.update.proofs.Loops.{actions_more, actions_end, refused_so}
use Rattle.update.proofs.cursor.Cursor.actions.Goals as goal

pub returns-in_err-action : goal.returns-in_err-action
returns-in_err-action c =
    refused_so c.from_residual.result c.in_err-action.field-0.0
    (actions_at (declarations_of c.args.terms.declarations.now) (table_of c.args.terms.table.now) c.args.count [] c.args.self.now.at c.args.self.now.rest.now) actions_listed c.action.new.self.at c.action.new.self.rest.now
    c.from_residual.ensures.1
    (λ (k : Then (List action.Action)).
    let some : 0 < c.args.count - c.loop-k.k = omega (arith, c.loop-k-test.true) in
    subst (λ (z : Decoded). Refuses c.in_err-action.field-0.0 z)
    (sym (actions_more (declarations_of c.args.terms.declarations.now) (table_of c.args.terms.table.now) (c.args.count - c.loop-k.k) (actions_of (take c.loop-k.k c.loop-k.all)) c.loop-k.self.at c.loop-k.self.rest.now k some)
    ∙ c.loop-k.invariant.1 k)
    (c.in_err-action.ensures (λ a behind rest. actions_at (declarations_of c.args.terms.declarations.now) (table_of c.args.terms.table.now) (c.args.count - c.loop-k.k - 1) (actions_of (take c.loop-k.k c.loop-k.all) ++ (a ∷ [])) behind rest k)))

pub loop-k-preserved : goal.loop-k-preserved
loop-k-preserved c =
    let some : 0 < c.args.count - c.loop-k.k = omega (arith, c.loop-k-test.true) in
    let less : c.args.count - (c.loop-k.k + 1) ≡ c.args.count - c.loop-k.k - 1 = omega arith in
    let within : c.loop-k.k < length c.loop-k.all = omega (arith, c.loop-k.invariant.0, c.requires, c.loop-k-test.true) in
    let pushed : actions_of (take (c.loop-k.k + 1) (set c.loop-k.all c.loop-k.k c.in_ok-action.action)) ≡ actions_of (take c.loop-k.k c.loop-k.all) ++ (action_of c.in_ok-action.action ∷ []) =
    ap actions_of (take_more_set c.loop-k.all c.loop-k.k c.in_ok-action.action within) ∙ map_push action_of (take c.loop-k.k c.loop-k.all) c.in_ok-action.action in (
      length-set c.loop-k.all c.loop-k.k c.in_ok-action.action ∙ c.loop-k.invariant.0,
      λ k.
          ap (λ (n : ℕ). actions_at (declarations_of c.args.terms.declarations.now) (table_of c.args.terms.table.now) n (actions_of (take (c.loop-k.k + 1) (set c.loop-k.all c.loop-k.k c.in_ok-action.action))) c.action.new.self.at c.action.new.self.rest.now k) less
          ∙ ap (λ (l : List action.Action). actions_at (declarations_of c.args.terms.declarations.now) (table_of c.args.terms.table.now) (c.args.count - c.loop-k.k - 1) l c.action.new.self.at c.action.new.self.rest.now k) pushed
          ∙ sym (c.in_ok-action.ensures (λ a behind rest. actions_at (declarations_of c.args.terms.declarations.now) (table_of c.args.terms.table.now) (c.args.count - c.loop-k.k - 1) (actions_of (take c.loop-k.k c.loop-k.all) ++ (a ∷ [])) behind rest k))
          ∙ sym (actions_more (declarations_of c.args.terms.declarations.now) (table_of c.args.terms.table.now) (c.args.count - c.loop-k.k) (actions_of (take c.loop-k.k c.loop-k.all)) c.loop-k.self.at c.loop-k.self.rest.now k some)
          ∙ c.loop-k.invariant.1 k,
    )

pub returns : goal.returns
returns c k =
    let none : c.args.count - c.loop-k.k ≡ 0 = omega (arith, c.loop-k-test.false) in
    let every : c.loop-k.k ≡ c.args.count = omega (arith, c.loop-k-test.false, c.loop-k.auto.k-end) in
    sym (c.loop-k.invariant.1 k)
    ∙ actions_end (declarations_of c.args.terms.declarations.now) (table_of c.args.terms.table.now) (c.args.count - c.loop-k.k) (actions_of (take c.loop-k.k c.loop-k.all)) c.loop-k.self.at c.loop-k.self.rest.now k none
    ∙ ap (λ (n : ℕ). k (actions_of (take n c.loop-k.all)) c.loop-k.self.at c.loop-k.self.rest.now) every
