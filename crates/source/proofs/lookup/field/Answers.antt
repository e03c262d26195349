use Rattle.std.proofs.Common.{MatchOption, length, rules}
use Rattle.source.proofs.Finding.{NoneBelow, FirstAt, found_in}
use Rattle.source.proofs.lookup.field.Goals as goal

pub returns : goal.returns
returns c =
    let fs = c.args.fields.now in
    let h = c.args.header.at in
    let w = c.args.word.now in
    let m : MatchOption c.map.result (NoneBelow h w fs (length fs)) (FirstAt h w fs) = search rules in
    found_in fs h w c.map.result m
