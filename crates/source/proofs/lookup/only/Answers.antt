use Rattle.std.proofs.Common.{◌+◌, drop, Option, sym, ap, ◌∙◌}
use Rattle.program.specs.Stands.{FieldNo}
use Rattle.source.specs.Names.{only_behind, fields_of, number_of}
use Rattle.source.proofs.Finding.{only_miss, only_first, only_second, only_end}
use Rattle.source.proofs.lookup.only.Goals as goal
use Rattle.source.proofs.lookup.only.Goals.{then-is+else-is_some, else-is}

pub loop-entry-preserved : goal.loop-entry-preserved
loop-entry-preserved c = elim c.if-is.branch [
  | then-is+else-is_some w ↦
      ap (λ (o : Option FieldNo). only_behind (number_of o) (fields_of (drop (c.loop-entry.entry-index + 1) c.args.fields.now)) c.args.word.now) w.found-is
      ∙ (only_first c.loop-entry.found c.args.fields.now c.args.word.now c.loop-entry.entry-index c.entry-item.result (sym w.is_some.ensures ∙ w.if-is_some.false) c.loop-entry-test.true c.entry-item.is w.if-is.ensures ∙ c.loop-entry.invariant)
  | else-is w ↦
      ap (λ (o : Option FieldNo). only_behind (number_of o) (fields_of (drop (c.loop-entry.entry-index + 1) c.args.fields.now)) c.args.word.now) w.found-is
      ∙ (only_miss c.loop-entry.found c.args.fields.now c.args.word.now c.loop-entry.entry-index c.entry-item.result c.loop-entry-test.true c.entry-item.is w.if-is.ensures ∙ c.loop-entry.invariant)
]

pub returns-then-is_some : goal.returns-then-is_some
returns-then-is_some c = sym (only_second c.loop-entry.found c.args.fields.now c.args.word.now c.loop-entry.entry-index c.entry-item.result (sym c.is_some.ensures ∙ c.if-is_some.true) c.loop-entry-test.true c.entry-item.is c.if-is.ensures) ∙ c.loop-entry.invariant

pub returns : goal.returns
returns c = sym (only_end c.loop-entry.found c.args.fields.now c.args.word.now c.loop-entry.entry-index c.loop-entry-test.false) ∙ c.loop-entry.invariant
