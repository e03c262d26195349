use Rattle.std.proofs.Common.{MatchOption, length, rules}
use Rattle.source.specs.Names.{entries_of}
use Rattle.source.proofs.Runs.{NoneBelow, FirstAt, unnamed_first}
use Rattle.source.proofs.reading.unnamed.Goals as goal

pub returns : goal.returns
returns c =
    let hs = entries_of c.args.headers.now in
    let cs = c.args.choices.now in
    let h : MatchOption c.find_map.result (NoneBelow hs cs (length cs)) (FirstAt hs cs) = search rules in
    unnamed_first hs cs c.find_map.result h
