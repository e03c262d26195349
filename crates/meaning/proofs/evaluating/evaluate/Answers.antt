use Rattle.std.proofs.Common.{true, sym, ◌∙◌}
use Rattle.model.specs.Statements.{paths_at}
use Rattle.program.specs.Stands.{over, declarations_of, statements_of}
use Rattle.program.proofs.Unfolding.{at_end}
use Rattle.table.specs.Stands.{tables_of}
use Rattle.meaning.proofs.Goes.{stops}
use Rattle.meaning.proofs.evaluating.evaluate.Goals as goal

pub loop-at-preserved : goal.loop-at-preserved
loop-at-preserved c = λ base end. c.advance-at.ensures.same base end ∙ c.loop-at.invariant base end

pub returns : goal.returns
returns c = λ base end.
    sym (stops (declarations_of c.args.declarations.now) (tables_of c.args.tables.now true) end (paths_at end (statements_of c.args.statements.now) c.loop-at.at) (over c.loop-at.fields base)
    (at_end end c.args.statements.now c.loop-at.at c.loop-at-test.false))
    ∙ c.loop-at.invariant base end
