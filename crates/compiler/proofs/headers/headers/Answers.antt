use Rattle.std.proofs.Common.{◌<◌, ◌≤◌, vec_items, vec_len, refl, arith}
use Rattle.source.specs.Stands.{seen_of}
use Rattle.compiler.specs.Packaging.{headers_from}
use Rattle.compiler.proofs.Heading.{headed, all_headed}
use Rattle.compiler.proofs.headers.headers.Goals as goal

pub loop-number-preserved : goal.loop-number-preserved
loop-number-preserved c =
    let n = vec_len c.args.limited.now.seen.names.headers in
    let l : c.loop-number.number < n = omega (arith, c.loop-number-test.true, c.len-number-end.ensures) in
    headed (seen_of c.args.limited.now.seen) n c.loop-number.number (vec_items c.loop-number.all) (vec_items c.push.new.self) c.in_ok-header.field-0
    (headers_from (seen_of c.args.limited.now.seen) 0 n) l c.in_ok-header.ensures c.in_ok-push.ensures.items c.loop-number.invariant

pub returns : goal.returns
returns c =
    let n = vec_len c.args.limited.now.seen.names.headers in
    let l : n ≤ c.loop-number.number = omega (arith, c.loop-number-test.false, c.len-number-end.ensures) in
    record {
      all = all_headed (seen_of c.args.limited.now.seen) n c.loop-number.number (vec_items c.loop-number.all) (headers_from (seen_of c.args.limited.now.seen) 0 n) l c.loop-number.invariant;
      first = refl;
    }
