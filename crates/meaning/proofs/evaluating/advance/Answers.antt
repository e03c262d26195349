use Rattle.std.proofs.Common.{◌+◌, min, true, length, sym, refl, ap, arith}
use Rattle.model.specs.Meaning.{means}
use Rattle.model.specs.Paths.{Paths}
use Rattle.model.specs.Statements.{paths_at}
use Rattle.program.specs.Stands.{over, declarations_of, statements_of, action_of, test_of}
use Rattle.program.proofs.Unfolding.{at_act, at_apply, at_if, at_skip}
use Rattle.table.specs.Stands.{tables_of}
use Rattle.meaning.proofs.Goes.{acts, applies, goes_yes, goes_no}
use Rattle.meaning.proofs.evaluating.advance.Goals as goal

pub returns-in-Act : goal.returns-in-Act
returns-in-Act c = record {
  forward = omega arith;
  within = omega (arith, c.requires);
  same = λ base end.
      acts (declarations_of c.args.declarations.now) (tables_of c.args.tables.now true) c.index-statements-at.result.offset (action_of c.in-Act.action)
      (paths_at end (statements_of c.args.statements.now) (c.args.at + 1)) (paths_at end (statements_of c.args.statements.now) c.args.at) (over c.args.fields.now base) (over c.act.new.fields base)
      (at_act end c.args.statements.now c.args.at c.index-statements-at.result c.requires c.index-statements-at.is c.in-Act.action c.in-Act.is) (c.act.ensures base);
}

pub returns-in-Apply : goal.returns-in-Apply
returns-in-Apply c = record {
  forward = omega arith;
  within = omega (arith, c.requires);
  same = λ base end.
      applies (declarations_of c.args.declarations.now) (tables_of c.args.tables.now true) c.index-statements-at.result.offset c.in-Apply.table.at
      (paths_at end (statements_of c.args.statements.now) (c.args.at + 1)) (paths_at end (statements_of c.args.statements.now) c.args.at) (over c.args.fields.now base) (over c.apply.new.fields base)
      (at_apply end c.args.statements.now c.args.at c.index-statements-at.result c.requires c.index-statements-at.is c.in-Apply.table c.in-Apply.is) (c.apply.ensures base);
}

pub returns-then-passes : goal.returns-then-passes
returns-then-passes c = record {
  forward = omega arith;
  within = omega (arith, c.requires);
  same = λ base end.
      goes_yes (declarations_of c.args.declarations.now) (tables_of c.args.tables.now true) c.index-statements-at.result.offset (test_of c.in-If.test)
      (paths_at end (statements_of c.args.statements.now) (c.args.at + 1)) (paths_at end (statements_of c.args.statements.now) (min (length c.args.statements.now) (c.args.at + 1 + c.in-If.past))) (paths_at end (statements_of c.args.statements.now) c.args.at) (over c.args.fields.now base)
      (at_if end c.args.statements.now c.args.at c.index-statements-at.result c.requires c.index-statements-at.is c.in-If.test c.in-If.past (min (length c.args.statements.now) (c.args.at + 1 + c.in-If.past)) c.in-If.is refl)
      (sym (c.if-passes.ensures base));
}

pub returns-else-passes : goal.returns-else-passes
returns-else-passes c = record {
  forward = omega (arith, c.landing.ensures, c.requires);
  within = omega (arith, c.landing.ensures);
  same = λ base end.
      goes_no (declarations_of c.args.declarations.now) (tables_of c.args.tables.now true) c.index-statements-at.result.offset (test_of c.in-If.test)
      (paths_at end (statements_of c.args.statements.now) (c.args.at + 1)) (paths_at end (statements_of c.args.statements.now) c.landing.result) (paths_at end (statements_of c.args.statements.now) c.args.at) (over c.args.fields.now base)
      (at_if end c.args.statements.now c.args.at c.index-statements-at.result c.requires c.index-statements-at.is c.in-If.test c.in-If.past c.landing.result c.in-If.is c.landing.ensures)
      (sym (c.if-passes.ensures base));
}

pub returns-in-Skip : goal.returns-in-Skip
returns-in-Skip c = record {
  forward = omega (arith, c.landing-in-Skip.ensures, c.requires);
  within = omega (arith, c.landing-in-Skip.ensures);
  same = λ base end.
      ap (λ (x : Paths). means (declarations_of c.args.declarations.now) x (tables_of c.args.tables.now true) (over c.args.fields.now base))
      (sym (at_skip end c.args.statements.now c.args.at c.index-statements-at.result c.requires c.index-statements-at.is c.in-Skip.past c.landing-in-Skip.result c.in-Skip.is c.landing-in-Skip.ensures));
}
