use Rattle.std.proofs.Common.{◌≡◌, Bool, List, ap, ◌∙◌, ap₂}
use Rattle.model.specs.Pipeline as model
use Rattle.pipeline.specs.Slots.{place_of}
use Rattle.pipeline.specs.Stands.{versions_of, stored_in, slots_of}
use Rattle.pipeline.specs.Pipeline.{shifted}
use Rattle.pipeline.proofs.OneStep.{slots_keep}
use Rattle.pipeline.proofs.pipeline.Pipeline.step.Goals as goal

pub returns : goal.returns
returns c =
    let keeps : slots_of (stored_in c.admit-slot.new.self) c.args.self.now.slots.row ≡ slots_of (stored_in c.args.self.now.store) c.args.self.now.slots.row =
    slots_keep (stored_in c.args.self.now.store) (stored_in c.admit-slot.new.self) c.args.self.now.slots.row (place_of c.args.self.now.spare) c.args.self.now.apart c.admit-slot.ensures.elsewhere in
    record {
      does = c.advance.ensures.does
          ∙ ap₂ (λ (x : model.Slot Bool) (l : List (model.Slot Bool)). shifted x (withSlots c l)) c.admit-slot.ensures.slot keeps;
      leaves = c.advance.ensures.leaves ∙ ap (λ (l : List (model.Slot Bool)). model.leaves (withSlots c l)) keeps;
      program = c.advance.ensures.program;
    }
  where
    withSlots : goal.After-advance → List (model.Slot Bool) → model.Pipeline Bool
    withSlots c l = record { slots = l; versions = versions_of c.args.self.now.versions; newest = c.args.self.now.versions.newest }
