-- Words among the tokens of a source have at least one byte.
use Rattle.std.proofs.Common.{◌≡◌, ℕ, zero, suc, ◌+◌, ◌-◌, ◌^◌, ◌≤◌, Bool, true, false, cond, ◌&&◌, eqb, ltb, List, [], ◌∷◌, length, take, Some, None, Option, sym, refl, subst, arith}
use Rattle.std.specs.List.{AllByRecursion}
use Rattle.token.specs.declared.token.Sign.{Sign}
use Rattle.token.specs.declared.token.Sign.TheVariants.{Equals}
use Rattle.token.specs.Tokens.{Run, Kind, Word, Number, Huge, Mark, Token, is_alphanumeric, front, begins, gap, decimal, hexadecimal, number, run_kind, single, mark, Lead, lead, tokens_behind}
use Rattle.source.specs.Steps.{word_of}

pub record Proper (x : Token) : Type 0 where
  pub some : (w : List ℕ) → word_of x.kind ≡ Some w → 1 ≤ length w

never : {A : Type 0} (w : List ℕ) → None ≡ Some w → A
never w e = let z : ◌≡◌ {A = ℕ} 0 1 = cc in absurd (omega arith)

-- only a run that is no number is a word, and it is that run
number_word : (o : Option ℕ) (k : Kind) (v w : List ℕ) → (word_of k ≡ Some w → w ≡ v) → word_of (number o k) ≡ Some w → w ≡ v
number_word (Some n) k v w h e = go (ltb n (2 ^ 32)) e
  where
    go : (b : Bool) → word_of (cond b (Number n) Huge) ≡ Some w → w ≡ v
    go true e = never w e
    go false e = never w e
number_word None k v w h e = h e

run_word : (v w : List ℕ) → word_of (run_kind v) ≡ Some w → w ≡ v
run_word v w e = number_word (decimal v) (number (hexadecimal v) (Word v)) v w (number_word (hexadecimal v) (Word v) v w (λ q. cc)) e

mark_word : (o : Option Sign) (w : List ℕ) → word_of (mark o) ≡ Some w → 1 ≤ length w
mark_word (Some s) w e = never w e
mark_word None w e = never w e

run_some : (b : ℕ) (bs : List ℕ) → is_alphanumeric b ≡ true → 1 ≤ length (take (front Run (b ∷ bs)) (b ∷ bs))
unfolding front
run_some b bs e = go (is_alphanumeric b) e
  where
    go : (t : Bool) → t ≡ true → 1 ≤ length (take (cond t (suc (front Run bs)) zero) (b ∷ bs))
    go true e = omega arith
    go false e = let z : ◌≡◌ {A = ℕ} 0 1 = cc in absurd (omega arith)

lead_word : (b : ℕ) (bs w : List ℕ) → word_of (lead (b ∷ bs)).kind ≡ Some w → 1 ≤ length w
lead_word b bs w e = go (is_alphanumeric b) refl e
  where
    signs : (t : Bool) → word_of (cond {A = Lead} t (record { kind = Mark Equals; width = 2 }) (record { kind = mark (single b); width = 1 })).kind ≡ Some w → 1 ≤ length w
    signs true e = never w e
    signs false e = mark_word (single b) w e

    go : (t : Bool) → is_alphanumeric b ≡ t → word_of (cond {A = Lead} t (record { kind = run_kind (take (front Run (b ∷ bs)) (b ∷ bs)); width = front Run (b ∷ bs) }) (cond (eqb b 61 && begins 61 bs) (record { kind = Mark Equals; width = 2 }) (record { kind = mark (single b); width = 1 }))).kind ≡ Some w → 1 ≤ length w
    go true q e = let r : w ≡ take (front Run (b ∷ bs)) (b ∷ bs) = run_word (take (front Run (b ∷ bs)) (b ∷ bs)) w e in subst (λ (v : List ℕ). 1 ≤ length v) (sym r) (run_some b bs q)
    go false q e = signs (eqb b 61 && begins 61 bs) e

all_if : (t : Bool) (xs ys : List Token) → AllByRecursion Proper xs → AllByRecursion Proper ys → AllByRecursion Proper (cond t xs ys)
all_if true xs ys h k = h
all_if false xs ys h k = k

pub tokens_proper : (k i : ℕ) (bs : List ℕ) → AllByRecursion Proper (tokens_behind k i bs)
unfolding tokens_behind
tokens_proper k i [] = (record { some = λ w e. never w e }, tt)
tokens_proper (suc k) i (b ∷ bs) = tokens_proper k (i + 1) bs
tokens_proper zero i (b ∷ bs) =
    all_if (ltb 0 (gap (b ∷ bs))) _ _ (tokens_proper (gap (b ∷ bs) - 1) (i + 1) bs) (record { some = lead_word b bs }, tokens_proper ((lead (b ∷ bs)).width - 1) (i + 1) bs)
