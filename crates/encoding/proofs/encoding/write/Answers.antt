use Rattle.std.proofs.lemmas.Result.{err_from_is_err_and}
use Rattle.encoding.proofs.Counting.{not_counted}
use Rattle.encoding.proofs.encoding.write.Goals as goal

pub returns-in_err-edit-clause-too_many : goal.returns-in_err-edit-clause-too_many
returns-in_err-edit-clause-too_many c e =
    let p = err_from_is_err_and c.from_residual-in_err-edit.result c.from_residual-in_err-edit.ensures.1 in
    let q = p.1 in
    let r = p.2 in
    not_counted c.args.edits.now c.loop-one.one-index c.one-item.result c.loop-one-test.true c.one-item.is (c.in_err-edit.ensures.too_many (cc))
