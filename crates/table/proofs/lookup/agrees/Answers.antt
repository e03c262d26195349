use Rattle.std.proofs.Common.{ℕ, ap, ◌∙◌}
use Rattle.model.specs.Table.{agrees}
use Rattle.table.specs.Stands.{pattern_of}
use Rattle.table.proofs.Fitting.{low}
use Rattle.table.proofs.lookup.agrees.Goals as goal

pub returns : goal.returns
returns c = ap (agrees (pattern_of c.args.pattern)) (c.get-x.ensures (λ (f : ℕ). 0) ∙ low c.args.fields.now c.args.field (λ (f : ℕ). 0))
