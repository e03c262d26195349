use Rattle.std.proofs.Common.{not, sym, ap, ◌∙◌}
use Rattle.pipeline.specs.Stands.{stored_in}
use Rattle.pipeline.proofs.Shifted.{older_is}
use Rattle.pipeline.proofs.pipeline.Pipeline.takes.Goals as goal

pub returns : goal.returns
returns c = ap not (c.any_older.ensures ∙ sym (older_is (stored_in c.args.self.now.store) c.args.self.now.versions.newest c.args.self.now.slots.row))
