use Rattle.std.proofs.Common.{ℕ, ◌+◌, ◌<◌, List, [], ◌∷◌, ◌++◌, length, take, drop, vec_items, sym, ap, ◌∙◌, subst, arith}
use Rattle.std.proofs.lemmas.List.{length-set, take_more_set, map_push}
use Rattle.model.specs.Table.{Pattern}
use Rattle.program.specs.Stands.{declarations_of, numbers_of}
use Rattle.table.specs.Stands.{pattern_of, patterns_of}
use Rattle.update.specs.Decoded.{Decoded, Then}
use Rattle.update.specs.Decoding.{pattern_at, patterns_at}
use Rattle.update.specs.Stands.{Refuses, patterns_listed}
use Rattle.update.proofs.Loops.{patterns_more, patterns_end, refused_so}
use Rattle.update.proofs.cursor.Cursor.patterns.Goals as goal

pub returns-in_err-pattern : goal.returns-in_err-pattern
returns-in_err-pattern c =
    refused_so c.from_residual.result c.in_err-pattern.field-0.0
    (patterns_at (declarations_of c.args.terms.declarations.now) (numbers_of (vec_items c.args.terms.table.now.looks)) [] c.args.self.now.at c.args.self.now.rest.now) patterns_listed c.pattern.new.self.at c.pattern.new.self.rest.now
    c.from_residual.ensures.1
    (λ (k : Then (List Pattern)).
    subst (λ (z : Decoded). Refuses c.in_err-pattern.field-0.0 z)
    (ap (λ (n : ℕ). pattern_at n c.loop-field.self.at c.loop-field.self.rest.now (λ w behind rest. patterns_at (declarations_of c.args.terms.declarations.now) (numbers_of (drop (c.loop-field.field-index + 1) (vec_items c.args.terms.table.now.looks))) (patterns_of (take c.loop-field.count c.loop-field.all) ++ (w ∷ [])) behind rest k)) c.get.ensures
    ∙ sym (patterns_more (declarations_of c.args.terms.declarations.now) (vec_items c.args.terms.table.now.looks) c.loop-field.field-index c.field-item.result (patterns_of (take c.loop-field.count c.loop-field.all)) c.loop-field.self.at c.loop-field.self.rest.now k (rw c.deref-field-items.ensures.value at c.loop-field-test.true) (rw c.deref-field-items.ensures.value at c.field-item.is))
    ∙ c.loop-field.invariant.2 k)
    (c.in_err-pattern.ensures (λ w behind rest. patterns_at (declarations_of c.args.terms.declarations.now) (numbers_of (drop (c.loop-field.field-index + 1) (vec_items c.args.terms.table.now.looks))) (patterns_of (take c.loop-field.count c.loop-field.all) ++ (w ∷ [])) behind rest k)))

pub loop-field-preserved : goal.loop-field-preserved
loop-field-preserved c =
    let within : c.loop-field.count < length c.loop-field.all = omega (arith, c.loop-field.invariant.0, c.loop-field.invariant.1, c.if-count-eq4.false) in (
      omega (arith, c.loop-field.invariant.0, c.if-count-eq4.false),
      length-set c.loop-field.all c.loop-field.count c.in_ok-pattern.pattern ∙ c.loop-field.invariant.1,
      λ k.
          ap (λ (l : List Pattern). patterns_at (declarations_of c.args.terms.declarations.now) (numbers_of (drop (c.loop-field.field-index + 1) (vec_items c.args.terms.table.now.looks))) l c.pattern.new.self.at c.pattern.new.self.rest.now k)
          (ap patterns_of (take_more_set c.loop-field.all c.loop-field.count c.in_ok-pattern.pattern within) ∙ map_push pattern_of (take c.loop-field.count c.loop-field.all) c.in_ok-pattern.pattern)
          ∙ sym (c.in_ok-pattern.ensures (λ w behind rest. patterns_at (declarations_of c.args.terms.declarations.now) (numbers_of (drop (c.loop-field.field-index + 1) (vec_items c.args.terms.table.now.looks))) (patterns_of (take c.loop-field.count c.loop-field.all) ++ (w ∷ [])) behind rest k))
          ∙ ap (λ (n : ℕ). pattern_at n c.loop-field.self.at c.loop-field.self.rest.now (λ w behind rest. patterns_at (declarations_of c.args.terms.declarations.now) (numbers_of (drop (c.loop-field.field-index + 1) (vec_items c.args.terms.table.now.looks))) (patterns_of (take c.loop-field.count c.loop-field.all) ++ (w ∷ [])) behind rest k)) c.get.ensures
          ∙ sym (patterns_more (declarations_of c.args.terms.declarations.now) (vec_items c.args.terms.table.now.looks) c.loop-field.field-index c.field-item.result (patterns_of (take c.loop-field.count c.loop-field.all)) c.loop-field.self.at c.loop-field.self.rest.now k (rw c.deref-field-items.ensures.value at c.loop-field-test.true) (rw c.deref-field-items.ensures.value at c.field-item.is))
          ∙ c.loop-field.invariant.2 k,
    )

pub returns : goal.returns
returns c k =
    sym (c.loop-field.invariant.2 k)
    ∙ patterns_end (declarations_of c.args.terms.declarations.now) (vec_items c.args.terms.table.now.looks) c.loop-field.field-index (patterns_of (take c.loop-field.count c.loop-field.all)) c.loop-field.self.at c.loop-field.self.rest.now k (rw c.deref-field-items.ensures.value at c.loop-field-test.false)
