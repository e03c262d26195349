-- How far a stretch goes: as far as the library's word says.
use Rattle.std.proofs.Common.{◌≡◌, ℕ, zero, suc, ◌+◌, ◌<◌, Bool, true, false, cond, not, eqb, List, [], ◌∷◌, refl, ap, ◌∙◌, arith}
use Rattle.std.specs.Char.{is_ascii_alphanumeric}
use Rattle.std.specs.List.{prefix_len}
use Rattle.token.specs.Tokens.{Stretch, Run, Line, belongs, front}

front_is : (s : Stretch) (p : ℕ → Bool) → ((b : ℕ) → p b ≡ belongs s b) → (bs : List ℕ) → prefix_len p bs ≡ front s bs
unfolding front
front_is s p same [] = refl
front_is s p same (b ∷ bs) = ap (λ (t : Bool). cond t (1 + prefix_len p bs) 0) (same b) ∙ (elim (belongs s b) as (λ t. cond t (1 + prefix_len p bs) 0 ≡ cond t (suc (front s bs)) zero) [
  | true ↦ omega (arith, front_is s p same bs)
  | false ↦ refl
])

pub front_line : (bs : List ℕ) → prefix_len (λ b. not (eqb b 10)) bs ≡ front Line bs
front_line bs = front_is Line (belongs Line) (λ b. refl) bs

pub same_letters : (b : ℕ) → is_ascii_alphanumeric b ≡ belongs Run b
same_letters b = grind arith

pub front_run : (bs : List ℕ) → prefix_len is_ascii_alphanumeric bs ≡ front Run bs
front_run bs = front_is Run is_ascii_alphanumeric same_letters bs

-- a stretch whose first byte belongs to it has a byte at least
pub front_some : (s : Stretch) (b : ℕ) (bs : List ℕ) → belongs s b ≡ true → 0 < front s (b ∷ bs)
unfolding front
front_some s b bs t =
    let e : front s (b ∷ bs) ≡ suc (front s bs) = ap (λ (x : Bool). cond x (suc (front s bs)) zero) t in
    omega (arith, e)
