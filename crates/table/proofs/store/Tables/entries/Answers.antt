use Rattle.std.proofs.Common.{◌<◌, length, vec_items, sym, ap, ◌∙◌, arith}
use Rattle.table.specs.Stands.{entries_of}
use Rattle.table.proofs.Stored.{at_table}
use Rattle.table.proofs.store.Tables.entries.Goals as goal

pub returns : goal.returns
returns c =
    let h : c.args.table.at < length (vec_items c.args.self.now.all) = omega (arith, c.args.self.now.all.ok.0, c.args.self.now.each, c.args.table.ok) in
    ap entries_of c.of.ensures ∙ sym (at_table c.args.newest (vec_items c.args.self.now.all) c.args.table.at c.index.result.now h c.index.ensures)
