use Rattle.std.proofs.Common.{length, vec_items, sym}
use Rattle.program.specs.Stands.{over, node_of}
use Rattle.pipeline.specs.Stands.{version_at, transit}
use Rattle.pipeline.proofs.Turns.{turn_ends}
use Rattle.pipeline.proofs.versions.Version.on_stage.Goals as goal

pub returns-then-not-works_on : goal.returns-then-not-works_on
returns-then-not-works_on c base =
    sym (turn_ends (length (vec_items c.args.self.loaded.now.nodes)) (version_at c.args.self) c.args.stage
    (over c.args.fields.now base) (transit (over c.args.fields.now base) c.args.at) (node_of c.node_at.result) (sym c.node_at.ensures) (sym c.if-not-works_on.ensures))
