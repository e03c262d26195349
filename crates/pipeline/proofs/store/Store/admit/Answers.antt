use Rattle.std.proofs.Common.{◌<◌, Bool, length, vec_items, ap, ◌∙◌, ap₂, arith}
use Rattle.model.specs.Packet.{Packet}
use Rattle.model.specs.Pipeline.{Holds}
use Rattle.pipeline.specs.Stands.{View, transit}
use Rattle.pipeline.proofs.Places.{store_set_same, store_set_other}
use Rattle.pipeline.proofs.store.Store.admit.Goals as goal

pub returns-clause-slot : goal.returns-clause-slot
returns-clause-slot c =
    let within : c.args.place.at < length (vec_items c.args.self.now.all) = omega (arith, c.args.place.ok, c.args.self.now.all.ok.0, c.args.self.now.each) in
    ap (λ (w : View). Holds (transit w.packet 0) w.version) (store_set_same (vec_items c.args.self.now.all) c.args.place.at c.admit.new.stored within)
    ∙ ap₂ (λ (p : Packet) (v : Bool). Holds (transit p 0) v) c.admit.ensures.packet c.admit.ensures.version

pub returns-clause-elsewhere : goal.returns-clause-elsewhere
returns-clause-elsewhere c j ne = store_set_other (vec_items c.args.self.now.all) c.args.place.at j c.admit.new.stored ne
