use Rattle.std.proofs.Common.{◌∙◌}
use Rattle.program.proofs.Unfolding.{at_end, at_act, at_apply, at_if, at_skip}
use Rattle.placement.proofs.step.step_at.Goals as goal

pub loop-at-preserved : goal.loop-at-preserved
loop-at-preserved c =
    c.loop-at.invariant ∙ at_skip c.args.end c.args.statements.now c.loop-at.at c.index-statements-at.result c.loop-at-test.true c.index-statements-at.is c.in-Skip.past c.landing-at.result c.in-Skip.is c.landing-at.ensures

pub returns-in-Act : goal.returns-in-Act
returns-in-Act c =
    c.loop-at.invariant ∙ at_act c.args.end c.args.statements.now c.loop-at.at c.index-statements-at.result c.loop-at-test.true c.index-statements-at.is c.in-Act.action c.in-Act.is

pub returns-in-Apply : goal.returns-in-Apply
returns-in-Apply c =
    c.loop-at.invariant ∙ at_apply c.args.end c.args.statements.now c.loop-at.at c.index-statements-at.result c.loop-at-test.true c.index-statements-at.is c.in-Apply.table c.in-Apply.is

pub returns-in-If : goal.returns-in-If
returns-in-If c =
    c.loop-at.invariant ∙ at_if c.args.end c.args.statements.now c.loop-at.at c.index-statements-at.result c.loop-at-test.true c.index-statements-at.is c.in-If.test c.in-If.past c.landing-no.result c.in-If.is c.landing-no.ensures

pub returns : goal.returns
returns c = c.loop-at.invariant ∙ at_end c.args.end c.args.statements.now c.loop-at.at c.loop-at-test.false
