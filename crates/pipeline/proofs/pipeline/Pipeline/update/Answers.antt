use Rattle.std.proofs.Common.{Bool, cond, ap, ap₂, ◌∙◌}
use mathlib.Core.Path.{fun_ext}
use Rattle.model.specs.Version.{Version, updated}
use Rattle.model.specs.Pipeline as model
use Rattle.table.specs.Stands.{edits_of}
use Rattle.pipeline.specs.Stands.{versions_of, stored_in, slots_of}
use Rattle.pipeline.specs.Pipeline.{pipeline_of}
use Rattle.pipeline.proofs.Renewed.{renewed_is}
use Rattle.pipeline.proofs.pipeline.Pipeline.update.Goals as goal

pub returns-clause-does : goal.returns-clause-does
returns-clause-does c =
    let was : Bool → Version = versions_of c.args.self.now.versions in
    ap₂ {C = model.Pipeline Bool} (λ (vs : Bool → Version) (b : Bool). record { slots = slots_of (stored_in c.args.self.now.store) c.args.self.now.slots.row; versions = vs; newest = b })
    (fun_ext (renewed_is (versions_of c.update.new.self) was c.args.self.now.versions.newest c.update.new.self.newest (updated (edits_of c.args.edits.items) (was c.args.self.now.versions.newest))
    c.update.ensures.bit c.update.ensures.newest c.update.ensures.before)) c.update.ensures.bit
    ∙ ap (λ (b : Bool). cond b (model.renewed model.one_bit (edits_of c.args.edits.items) (pipeline_of c.args.self.now)) (pipeline_of c.args.self.now)) c.if-not-takes.ensures
