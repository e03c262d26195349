use Rattle.std.proofs.Common.{◌<◌, Bool, List, length, refl, ap, arith}
use Rattle.model.specs.Pipeline as model
use Rattle.pipeline.specs.Slots.{place_of}
use Rattle.pipeline.specs.Stands.{versions_of, stored_in}
use Rattle.pipeline.proofs.OneStep.{step_row, step_last, step_differ}
use Rattle.pipeline.proofs.pipeline.Pipeline.advance.Goals as goal

pub invariant_of-self : goal.invariant_of-self
invariant_of-self c = record {
  apart = step_differ c.args.self.now.slots.row c.advance.result.0.row c.args.incoming c.advance.result.1 (place_of c.args.self.now.spare) (place_of c.advance.result.1)
      c.requires refl c.advance.ensures.places c.args.self.now.apart;
}

pub returns : goal.returns
returns c =
    let some : 0 < length c.args.self.now.slots.row = omega (arith, c.advance.ensures.twelve) in
    let row = step_row (versions_of c.args.self.now.versions) (stored_in c.args.self.now.store) (stored_in c.advance.new.store)
    c.args.self.now.slots.row c.advance.result.0.row c.args.incoming c.advance.result.1 some c.advance.ensures.slots in
    let last = step_last (versions_of c.args.self.now.versions) (stored_in c.args.self.now.store) (stored_in c.advance.new.store)
    c.args.self.now.slots.row c.advance.result.0.row c.args.incoming c.advance.result.1 some c.advance.ensures.slots in
    record {
      does = ap {B = model.Pipeline Bool} (λ (l : List (model.Slot Bool)). record { slots = l; versions = versions_of c.args.self.now.versions; newest = c.args.self.now.versions.newest }) row;
      leaves = ap model.departing last;
      program = refl;
    }
