-- Rows of slots, whatever tells versions apart: their lengths, and what working on them, the last slot and all but the last come to.
use Rattle.std.proofs.Common.{◌≡◌, ℕ, zero, suc, ◌+◌, List, [], ◌∷◌, length, refl, ap, ◌∙◌, arith}
use Rattle.model.specs.Version.{Version}
use Rattle.model.specs.Pipeline.{Slot, Pipeline, Arrival, worked, but_last, arriving, advance, free}

module _ {V : Type 0} where
  pub worked_length : (vs : V → Version) (s : ℕ) (xs : List (Slot V)) → length (worked vs s xs) ≡ length xs
  unfolding worked
  worked_length vs s [] = refl
  worked_length vs s (x ∷ xs) = ap suc (worked_length vs (s + 1) xs)

  -- one slot in front and one less behind: as many as before
  pub shifted_length : (x : Slot V) (y : Slot V) (xs : List (Slot V)) → length (x ∷ but_last (y ∷ xs)) ≡ length (y ∷ xs)
  unfolding but_last
  shifted_length x y [] = refl
  shifted_length x y (z ∷ zs) = ap suc (shifted_length y z zs)

  -- a step keeps the number of slots
  pub advance_length : (n : ℕ) (a : Arrival) (c : Pipeline V) → length c.slots ≡ suc n → length (advance a c).slots ≡ suc n
  advance_length n a c e = go (worked c.versions 0 c.slots) (worked_length c.versions 0 c.slots ∙ e)
    where
      go : (ys : List (Slot V)) → length ys ≡ suc n → length (arriving c.newest a ∷ but_last ys) ≡ suc n
      go [] h = absurd (omega arith)
      go (y ∷ ys) h = shifted_length (arriving c.newest a) y ys ∙ h

pub free_length : (V : Type 0) (k : ℕ) → length (free {V = V} k) ≡ k
unfolding free
free_length V zero = refl
free_length V (suc k) = ap suc (free_length V k)
