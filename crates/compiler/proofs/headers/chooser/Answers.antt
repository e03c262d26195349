use Rattle.std.proofs.Common.{◌<◌, length, None, sym, rules}
use Rattle.std.proofs.lemmas.List.{get_or-map}
use Rattle.source.specs.Names.{number_of}
use Rattle.compiler.proofs.headers.chooser.Goals as goal

pub returns : goal.returns
returns c =
    let h : c.args.header.at < length c.args.by = search rules in
    sym (get_or-map number_of c.args.by c.args.header.at c.index-by-header.result None h)
