use Rattle.std.proofs.Common.{sym, ◌∙◌}
use Rattle.source.specs.Names.{entry_of}
use Rattle.source.proofs.Finding.{find_hit, find_miss, find_end}
use Rattle.source.proofs.lookup.find.Goals as goal

pub loop-entry-preserved : goal.loop-entry-preserved
loop-entry-preserved g c = find_miss entry_of c.args.names.now c.args.word.now c.loop-entry.entry-index c.entry-item.result c.loop-entry-test.true c.entry-item.is c.if-is.ensures ∙ c.loop-entry.invariant

pub returns-then-is : goal.returns-then-is
returns-then-is g c = sym (find_hit entry_of c.args.names.now c.args.word.now c.loop-entry.entry-index c.entry-item.result c.loop-entry-test.true c.entry-item.is c.if-is.ensures) ∙ c.loop-entry.invariant

pub returns : goal.returns
returns g c = sym (find_end entry_of c.args.names.now c.args.word.now c.loop-entry.entry-index c.loop-entry-test.false) ∙ c.loop-entry.invariant
