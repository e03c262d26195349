use Rattle.std.proofs.lemmas.List.{map-set}
use Rattle.program.specs.declared.field.Width.{Width}
use Rattle.program.proofs.field.Widths.set.Goals as goal

pub returns : goal.returns
returns c = map-set (λ (w : Width). w.bits) c.args.self.now.of c.args.field.at c.args.width
