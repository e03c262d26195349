use Rattle.std.proofs.Common.{◌≡◌, ℕ, ◌<◌, get_or, None, rules}
use Rattle.pipeline.specs.Slots.{place_of}
use Rattle.pipeline.specs.declared.slot.Slot.{Slot}
use Rattle.pipeline.proofs.Start.{places_differ, all_free}
use Rattle.pipeline.proofs.starting.free_slots.Goals as goal

pub returns : goal.returns
returns c =
    let each : (i : ℕ) (d : Slot) → i < 12 → place_of (get_or c.from_fn.result i d) ≡ i = λ i d h. search (rules, c.from_fn.ensures.items.at i d h) in
    let none : (i : ℕ) (d : Slot) → i < 12 → (get_or c.from_fn.result i d).node ≡ None = λ i d h. search (rules, c.from_fn.ensures.items.at i d h) in
    record {
      apart = places_differ c.from_fn.result c.from_fn.ensures.items.long each;
      free = λ s. all_free s c.from_fn.result c.from_fn.ensures.items.long none;
    }
