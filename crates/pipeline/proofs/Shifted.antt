-- From the slots behind a step to the model's step: all but the last, and the last.
use Rattle.std.proofs.Common.{◌≡◌, ℕ, ◌<◌, Bool, ◌||◌, List, [], ◌∷◌, ◌++◌, length, sym, refl, ap, ◌∙◌, arith}
use Rattle.std.specs.List.{list_any}
use Rattle.model.specs.Pipeline.{Slot, one_bit, last_of, but_last, older_slot, any_older}
use Rattle.pipeline.specs.Stands.{View, slot_of, slots_of}
use Rattle.pipeline.specs.declared.slot.Slot as code

but_last_push : (xs : List (Slot Bool)) (c : Slot Bool) → but_last (xs ++ (c ∷ [])) ≡ xs
unfolding but_last
but_last_push [] c = refl
but_last_push (x ∷ []) c = refl
but_last_push (x ∷ (y ∷ xs)) c = ap (λ (l : List (Slot Bool)). x ∷ l) (but_last_push (y ∷ xs) c)

last_push : (xs : List (Slot Bool)) (c : Slot Bool) → last_of (xs ++ (c ∷ [])) ≡ c
unfolding last_of
last_push [] c = refl
last_push (x ∷ []) c = refl
last_push (x ∷ (y ∷ xs)) c = last_push (y ∷ xs) c

-- a row that was pushed on by one in front
pub shifted_row : (xs ys : List (Slot Bool)) (c x : Slot Bool) → 0 < length ys → xs ++ (c ∷ []) ≡ x ∷ ys → xs ≡ x ∷ but_last ys
unfolding but_last
shifted_row xs [] c x h e = absurd (omega arith)
shifted_row xs (y ∷ ys) c x h e = sym (but_last_push xs c) ∙ ap but_last e

pub shifted_last : (xs ys : List (Slot Bool)) (c x : Slot Bool) → 0 < length ys → xs ++ (c ∷ []) ≡ x ∷ ys → c ≡ last_of ys
unfolding last_of
shifted_last xs [] c x h e = absurd (omega arith)
shifted_last xs (y ∷ ys) c x h e = sym (last_push xs c) ∙ ap last_of e

-- whether a packet in a slot is older, as the library's word says it
pub older_is : (s : ℕ → View) (newest : Bool) (xs : List code.Slot) → any_older one_bit newest (slots_of s xs) ≡ list_any (λ (x : code.Slot). older_slot one_bit newest (slot_of s x)) xs
unfolding any_older
older_is s newest [] = refl
older_is s newest (x ∷ xs) = ap (λ (b : Bool). older_slot one_bit newest (slot_of s x) || b) (older_is s newest xs)
