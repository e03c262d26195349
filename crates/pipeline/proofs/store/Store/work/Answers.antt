use Rattle.std.proofs.Common.{ℕ, ◌<◌, length, vec_items, Option, sym, ap, ◌∙◌, arith}
use Rattle.model.specs.Pipeline.{worked_slot}
use Rattle.pipeline.specs.Stands.{versions_of, stored_in, held}
use Rattle.pipeline.proofs.Places.{slot_worked, store_set_other, with_fields}
use Rattle.pipeline.proofs.store.Store.work.Goals as goal

pub returns-clause-works : goal.returns-clause-works
returns-clause-works c =
    let within : c.args.slot.place.at < length (vec_items c.args.self.now.all) = omega (arith, c.args.slot.place.ok, c.args.self.now.all.ok.0, c.args.self.now.each) in
    slot_worked c.args.versions.now c.of-version.result c.args.stage c.in-Some.at c.on_stage-next.result (vec_items c.args.self.now.all) c.args.slot.place.at
    c.index_mut-stored.result.now c.on_stage-next.new.fields within c.index_mut-stored.ensures.value c.of-version.ensures.program c.of-version.ensures.version c.on_stage-next.ensures
    ∙ ap (λ (o : Option ℕ). worked_slot (versions_of c.args.versions.now) c.args.stage (held (stored_in c.args.self.now c.args.slot.place.at) o)) (sym c.in-Some.is)

pub returns-clause-elsewhere : goal.returns-clause-elsewhere
returns-clause-elsewhere c j ne = store_set_other (vec_items c.args.self.now.all) c.args.slot.place.at j (with_fields c.index_mut-stored.result.now c.on_stage-next.new.fields) ne
