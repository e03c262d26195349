-- The tokens of a source end with the end, and have it nowhere else.
use Rattle.std.proofs.Common.{◌≡◌, ℕ, zero, suc, ◌+◌, ◌-◌, ◌^◌, Bool, true, false, cond, ◌&&◌, eqb, ltb, List, [], ◌∷◌, take, Some, None, Option, refl}
use Rattle.token.specs.declared.token.Sign.{Sign}
use Rattle.token.specs.declared.token.Sign.TheVariants.{Equals}
use Rattle.token.specs.Tokens.{Run, Kind, Number, Huge, Mark, Token, token, is_alphanumeric, front, begins, gap, decimal, hexadecimal, number, run_kind, single, mark, Lead, lead, tokens_behind}
use Rattle.source.specs.Steps.{is_end}
use Rattle.grammar.specs.Laws.{Ended, last, more, TokensEnd}

number_goes_on : (o : Option ℕ) (k : Kind) → is_end k ≡ false → is_end (number o k) ≡ false
number_goes_on (Some n) k e = by_test (ltb n (2 ^ 32))
  where
    by_test : (b : Bool) → is_end (cond b (Number n) Huge) ≡ false
    by_test true = refl
    by_test false = refl
number_goes_on None k e = e

run_goes_on : (run : List ℕ) → is_end (run_kind run) ≡ false
run_goes_on run = number_goes_on (decimal run) _ (number_goes_on (hexadecimal run) _ refl)

mark_goes_on : (o : Option Sign) → is_end (mark o) ≡ false
mark_goes_on (Some s) = refl
mark_goes_on None = refl

-- the first token of some bytes is not the end
lead_goes_on : (b : ℕ) (bs : List ℕ) → is_end (lead (b ∷ bs)).kind ≡ false
lead_goes_on b bs = by_test (is_alphanumeric b) (eqb b 61 && begins 61 bs)
  where
    by_test : (s t : Bool) →
        is_end (cond {A = Lead} s (record { kind = run_kind (take (front Run (b ∷ bs)) (b ∷ bs)); width = front Run (b ∷ bs) }) (cond t (record { kind = Mark Equals; width = 2 }) (record { kind = mark (single b); width = 1 }))).kind ≡ false
    by_test true t = run_goes_on _
    by_test false true = refl
    by_test false false = mark_goes_on (single b)

one_ends : (b : Bool) (x : Token) (us vs : List Token) → is_end x.kind ≡ false → Ended us → Ended vs → Ended (cond b us (x ∷ vs))
one_ends true x us vs e m n = m
one_ends false x us vs e m n = more e n

behind_ends : (k i : ℕ) (bs : List ℕ) → Ended (tokens_behind k i bs)
unfolding tokens_behind
behind_ends k i [] = last refl
behind_ends (suc k) i (b ∷ bs) = behind_ends k (i + 1) bs
behind_ends zero i (b ∷ bs) =
    one_ends (ltb 0 (gap (b ∷ bs))) (token (lead (b ∷ bs)).kind i) _ _ (lead_goes_on b bs) (behind_ends (gap (b ∷ bs) - 1) (i + 1) bs) (behind_ends ((lead (b ∷ bs)).width - 1) (i + 1) bs)

pub tokens_end : TokensEnd
tokens_end source = behind_ends 0 0 source
