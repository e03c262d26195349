use Rattle.std.proofs.Common.{length, arith}
use Rattle.program.specs.Stands.{over, declarations_of}
use Rattle.table.proofs.Fitting.{past_all}
use Rattle.table.proofs.lookup.act_by.Goals as goal

pub returns-in_default : goal.returns-in_default
returns-in_default c base =
    rw c.in_default.is (past_all (declarations_of c.args.declarations.now) c.args.entries.now (length c.args.entries.now) (over c.args.fields.now base) (omega arith))

pub returns-in_default-get : goal.returns-in_default-get
returns-in_default-get c base =
    rw c.in-Some.is (past_all (declarations_of c.args.declarations.now) c.args.entries.now c.in-Some.at (over c.args.fields.now base) c.in_default-get.ensures.lookup.3)
