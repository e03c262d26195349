-- Twelve free slots, the i-th with place i.
use Rattle.std.proofs.Common.{◌≡◌, ℕ, ◌<◌, true, List, [], ◌∷◌, length, get_or, None, Option, ap, ◌∙◌, arith}
use Rattle.std.proofs.lemmas.List.{get_or-map, length-map}
use Rattle.std.proofs.lemmas.List.FromFn.{fill_by_all}
use Rattle.model.specs.Pipeline as model
use Rattle.pipeline.specs.Apart.{distinct}
use Rattle.pipeline.specs.Slots.{place_of, places_of}
use Rattle.pipeline.specs.Stands.{View, held, slot_of, slots_of}
use Rattle.pipeline.specs.declared.slot.Slot.{Slot}

pub places_differ : (xs : List Slot) → length xs ≡ 12 → ((i : ℕ) (d : Slot) → i < 12 → place_of (get_or xs i d) ≡ i) → distinct (12 ∷ places_of xs) ≡ true
places_differ [] long each = absurd (omega arith)
places_differ (x ∷ xs) long each =
    ap (λ (ps : List ℕ). distinct (12 ∷ ps))
    (fill_by_all (λ k. k) (places_of (x ∷ xs)) 12 0 (length-map (x ∷ xs) place_of ∙ long)
    (λ k h. let within : k < length (x ∷ xs) = omega arith in get_or-map place_of (x ∷ xs) k x 0 within ∙ each k x h))

pub all_free : (s : ℕ → View) (xs : List Slot) → length xs ≡ 12 → ((i : ℕ) (d : Slot) → i < 12 → (get_or xs i d).node ≡ None) → slots_of s xs ≡ model.free 12
unfolding model.free
all_free s [] long none = absurd (omega arith)
all_free s (x ∷ xs) long none =
    fill_by_all (λ k. model.Free) (slots_of s (x ∷ xs)) 12 model.Free (length-map (x ∷ xs) (slot_of s) ∙ long)
    (λ k h.
    let within : k < length (x ∷ xs) = omega arith in
    get_or-map (slot_of s) (x ∷ xs) k x model.Free within ∙ ap (λ (o : Option ℕ). held (s (place_of (get_or (x ∷ xs) k x))) o) (none k x h))
