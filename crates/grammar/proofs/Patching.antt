-- Rows that are written anew when the length of a block is known.
use Rattle.std.proofs.Common.{◌≡◌, ℕ, ◌+◌, ◌-◌, List, [], ◌∷◌, ◌++◌, length, set, refl, ap, ◌∙◌, arith}
use Rattle.std.proofs.lemmas.List.{append_assoc, length-append, set_at}

behind_one : {X : Type 0} (R : List X) (x : X) (I : List X) → length (R ++ x ∷ I) - length R - 1 ≡ length I
behind_one R x I = simp length-append (omega arith)

from_one : {X : Type 0} (R : List X) (x : X) (I : List X) → length (R ++ x ∷ I) - length R ≡ length I + 1
from_one R x I = simp length-append (omega arith)

-- one element, of which what stands behind it decides
pub patched : {X : Type 0} (y : ℕ → X) (R : List X) (x : X) (I : List X) (i : ℕ) → i ≡ length R →
    set ((R ++ x ∷ []) ++ I) i (y (length ((R ++ x ∷ []) ++ I) - i - 1)) ≡ R ++ y (length I) ∷ I
patched y R x I i e =
    rw (e, append_assoc R (x ∷ []) I) (ap (λ (m : ℕ). set (R ++ x ∷ I) (length R) (y m)) (behind_one R x I) ∙ set_at R x I (y (length I)) (length R) refl)

pub patched_again : {X : Type 0} (y : ℕ → X) (R : List X) (x : X) (I : List X) →
    set (R ++ x ∷ I) (length R) (y (length (R ++ x ∷ I) - length R)) ≡ R ++ y (length I + 1) ∷ I
patched_again y R x I = ap (λ (m : ℕ). set (R ++ x ∷ I) (length R) (y m)) (from_one R x I) ∙ set_at R x I (y (length I + 1)) (length R) refl

pub same_length : {X : Type 0} (R : List X) (x y : X) (I : List X) → length (R ++ x ∷ I) ≡ length (R ++ y ∷ I)
same_length R x y I = simp length-append

pub one_more : {X : Type 0} (R : List X) (x : X) (Z : List X) → (R ++ x ∷ []) ++ Z ≡ R ++ x ∷ Z
one_more R x Z = append_assoc R (x ∷ []) Z

pub block_more : {X : Type 0} (R : List X) (x : X) (I Z : List X) → (R ++ x ∷ I) ++ Z ≡ R ++ x ∷ (I ++ Z)
block_more R x I Z = append_assoc R (x ∷ I) Z

pub blocks_more : {X : Type 0} (R : List X) (x : X) (I : List X) (y : X) (O Z : List X) → ((R ++ x ∷ I) ++ y ∷ O) ++ Z ≡ R ++ x ∷ (I ++ y ∷ (O ++ Z))
blocks_more R x I y O Z = append_assoc (R ++ x ∷ I) (y ∷ O) Z ∙ append_assoc R (x ∷ I) (y ∷ (O ++ Z))
