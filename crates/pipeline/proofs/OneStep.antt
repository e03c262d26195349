-- One step: what comes is admitted at the spare place, and all slots are worked on and move on.
use Rattle.std.proofs.Common.{◌≡◌, ℕ, ◌<◌, Bool, true, List, [], ◌∷◌, ◌++◌, length, sym, ap, ◌∙◌, subst}
use Rattle.std.proofs.lemmas.List.{length-map}
use Rattle.std.proofs.lemmas.Bool.{and_parts}
use Rattle.model.specs.Version.{Version}
use Rattle.model.specs.Pipeline as model
use Rattle.model.proofs.Slots.{worked_length}
use Rattle.pipeline.specs.Apart.{apart, distinct}
use Rattle.pipeline.specs.Slots.{place_of, places_of}
use Rattle.pipeline.specs.Stands.{View, slot_of, slots_of}
use Rattle.pipeline.specs.declared.slot.Slot.{Slot}
use Rattle.pipeline.proofs.Shift.{Elsewhere, slots_same, distinct_turned}
use Rattle.pipeline.proofs.Shifted.{shifted_row, shifted_last}

-- what comes to a place that no slot has changes nothing for the slots
pub slots_keep : (s0 s1 : ℕ → View) (row : List Slot) (spare : ℕ) → distinct (spare ∷ places_of row) ≡ true → Elsewhere spare s0 s1 → slots_of s1 row ≡ slots_of s0 row
slots_keep s0 s1 row spare differ same = slots_same spare s0 s1 row same (and_parts (apart spare (places_of row)) (distinct (places_of row)) differ).0

module _ (vs : Bool → Version) (s0 s2 : ℕ → View) (row moved : List Slot) (incoming last : Slot) (some : 0 < length row)
    (steps : slots_of s2 moved ++ (slot_of s2 last ∷ []) ≡ slot_of s0 incoming ∷ model.worked vs 0 (slots_of s0 row)) where
  nonempty : 0 < length (model.worked vs 0 (slots_of s0 row))
  nonempty = subst (λ (n : ℕ). 0 < n) (sym (worked_length vs 0 (slots_of s0 row) ∙ length-map row (slot_of s0))) some

  pub step_row : slots_of s2 moved ≡ slot_of s0 incoming ∷ model.but_last (model.worked vs 0 (slots_of s0 row))
  step_row = shifted_row (slots_of s2 moved) (model.worked vs 0 (slots_of s0 row)) (slot_of s2 last) (slot_of s0 incoming) nonempty steps

  pub step_last : slot_of s2 last ≡ model.last_of (model.worked vs 0 (slots_of s0 row))
  step_last = shifted_last (slots_of s2 moved) (model.worked vs 0 (slots_of s0 row)) (slot_of s2 last) (slot_of s0 incoming) nonempty steps

-- the places of the slots and the spare one stay all different
pub step_differ : (row moved : List Slot) (incoming last : Slot) (spare next : ℕ) → place_of incoming ≡ spare → next ≡ place_of last →
    places_of moved ++ (place_of last ∷ []) ≡ place_of incoming ∷ places_of row → distinct (spare ∷ places_of row) ≡ true → distinct (next ∷ places_of moved) ≡ true
step_differ row moved incoming last spare next e f h d =
    ap (λ (p : ℕ). distinct (p ∷ places_of moved)) f
    ∙ distinct_turned (places_of moved) (place_of last) (ap distinct (h ∙ ap (λ (p : ℕ). p ∷ places_of row) e) ∙ d)
