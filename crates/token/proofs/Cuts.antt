-- Tokens behind a part of a source that was passed over.
use Rattle.std.proofs.Common.{◌≡◌, ℕ, zero, suc, ◌+◌, ◌-◌, ◌^◌, ◌<◌, ◌≤◌, Bool, true, false, cond, ◌&&◌, eqb, ltb, List, [], ◌∷◌, length, take, drop, Some, None, Option, sym, refl, ap, ◌∙◌, add-zero, arith, lit<}
use Rattle.std.proofs.lemmas.List.{take_rest}
use Rattle.std.proofs.lemmas.Bool.{cond-true, cond-false, lt-ltb, le-ltb}
use Rattle.token.specs.declared.token.Sign.{Sign}
use Rattle.token.specs.Tokens.{Run, Token, token, Kind, End, Word, Number, Huge, Lead, begins, decimal, hexadecimal, number, mark, single, gap, lead, front, is_alphanumeric, tokens_behind, tokens_from, behind}
use Rattle.token.proofs.Stretches.{front_some}

pub behind_is : (k i : ℕ) (bs : List ℕ) → k ≤ length bs → tokens_behind k i bs ≡ tokens_from (i + k) (drop k bs)
unfolding tokens_behind
behind_is zero i [] h = ap (λ (n : ℕ). token End n ∷ []) (sym (add-zero i))
behind_is zero i (b ∷ bs) h = ap (λ (n : ℕ). tokens_behind 0 n (b ∷ bs)) (sym (add-zero i))
behind_is (suc k) i [] h = absurd (omega arith)
behind_is (suc k) i (b ∷ bs) h =
    let e : i + 1 + k ≡ i + suc k = omega arith in
    behind_is k (i + 1) bs (omega arith) ∙ ap (λ (n : ℕ). tokens_from n (drop k bs)) e

-- a token that isn't the end has a byte at least
width_by : (t u : Bool) (x y z : Lead) → (t ≡ true → 0 < x.width) → 0 < y.width → 0 < z.width → 0 < (cond t x (cond u y z)).width
width_by true u x y z p q r = p refl
width_by false true x y z p q r = q
width_by false false x y z p q r = r

some_width : (b : ℕ) (bs : List ℕ) → 0 < (lead (b ∷ bs)).width
some_width b bs = width_by (is_alphanumeric b) (eqb b 61 && begins 61 bs) _ _ _ (front_some Run b bs) (lit< tt) (lit< tt)

not_end_by : (ts : List Token) (t u : Bool) (x y z : Lead) → behind x.kind ts ≡ ts → behind y.kind ts ≡ ts → behind z.kind ts ≡ ts → behind (cond t x (cond u y z)).kind ts ≡ ts
not_end_by ts true u x y z p q r = p
not_end_by ts false true x y z p q r = q
not_end_by ts false false x y z p q r = r

number_not_end : (ts : List Token) (o : Option ℕ) (k : Kind) → behind k ts ≡ ts → behind (number o k) ts ≡ ts
number_not_end ts (Some n) k h = elim (ltb n (2 ^ 32)) as (λ t. behind (cond t (Number n) Huge) ts ≡ ts) [ true ↦ refl | false ↦ refl ]
number_not_end ts None k h = h

mark_not_end : (ts : List Token) (o : Option Sign) → behind (mark o) ts ≡ ts
mark_not_end ts (Some s) = refl
mark_not_end ts None = refl

not_end : (b : ℕ) (bs : List ℕ) (ts : List Token) → behind (lead (b ∷ bs)).kind ts ≡ ts
not_end b bs ts =
    let run : List ℕ = take (front Run (b ∷ bs)) (b ∷ bs) in
    not_end_by ts (is_alphanumeric b) (eqb b 61 && begins 61 bs) _ _ _
    (number_not_end ts (decimal run) (number (hexadecimal run) (Word run)) (number_not_end ts (hexadecimal run) (Word run) refl)) refl (mark_not_end ts (single b))

step : (n i : ℕ) (b : ℕ) (bs : List ℕ) → 0 < n → n ≤ length (b ∷ bs) → tokens_behind (n - 1) (i + 1) bs ≡ tokens_from (i + n) (drop n (b ∷ bs))
step zero i b bs p h = absurd (omega arith)
step (suc n) i b bs p h =
    let e : i + 1 + n ≡ i + suc n = omega arith in
    let f : suc n - 1 ≡ n = omega arith in
    ap (λ (k : ℕ). tokens_behind k (i + 1) bs) f ∙ (behind_is n (i + 1) bs (omega arith) ∙ ap (λ (k : ℕ). tokens_from k (drop n bs)) e)

-- what is passed over leaves the tokens as they were
pub gap_passed : (i : ℕ) (bs : List ℕ) → 0 < gap bs → gap bs ≤ length bs → tokens_from (i + gap bs) (drop (gap bs) bs) ≡ tokens_from i bs
unfolding tokens_behind
gap_passed i [] p h = absurd (omega arith)
gap_passed i (b ∷ bs) p h =
    sym (step (gap (b ∷ bs)) i b bs p h)
    ∙ sym (cond-true (ltb 0 (gap (b ∷ bs))) (tokens_behind (gap (b ∷ bs) - 1) (i + 1) bs) (token (lead (b ∷ bs)).kind i ∷ tokens_behind ((lead (b ∷ bs)).width - 1) (i + 1) bs) (lt-ltb 0 (gap (b ∷ bs)) p))

-- the token at the front, where nothing is passed over, and the tokens behind it
pub token_passed : (i : ℕ) (bs : List ℕ) → gap bs ≡ 0 → (lead bs).width ≤ length bs →
    tokens_from i bs ≡ token (lead bs).kind i ∷ behind (lead bs).kind (tokens_from (i + (lead bs).width) (drop (lead bs).width bs))
unfolding tokens_behind
token_passed i [] g h = refl
token_passed i (b ∷ bs) g h =
    let n : ℕ = (lead (b ∷ bs)).width in
    cond-false (ltb 0 (gap (b ∷ bs))) (tokens_behind (gap (b ∷ bs) - 1) (i + 1) bs) (token (lead (b ∷ bs)).kind i ∷ tokens_behind (n - 1) (i + 1) bs) (le-ltb 0 (gap (b ∷ bs)) (omega (arith, g)))
    ∙ ap (λ (ts : List Token). token (lead (b ∷ bs)).kind i ∷ ts) (step n i b bs (some_width b bs) h ∙ sym (not_end b bs (tokens_from (i + n) (drop n (b ∷ bs)))))

-- the same, with the rest of a slice as the code has it
pub gap_skipped : (i n : ℕ) (bs : List ℕ) → n ≡ gap bs → (n ≡ 0 → ⊥) → n ≤ length bs → tokens_from (i + n) (take (length bs - n) (drop n bs)) ≡ tokens_from i bs
gap_skipped i n bs e some h =
    let p : 0 < gap bs = omega (arith, e) in
    let q : gap bs ≤ length bs = omega (arith, e) in
    ap (tokens_from (i + n)) (take_rest bs n) ∙ (ap (λ (k : ℕ). tokens_from (i + k) (drop k bs)) e ∙ gap_passed i bs p q)

pub token_taken : (i : ℕ) (x : Lead) (bs : List ℕ) → gap bs ≡ 0 → x ≡ lead bs → x.width ≤ length bs →
    tokens_from i bs ≡ token x.kind i ∷ behind x.kind (tokens_from (i + x.width) (take (length bs - x.width) (drop x.width bs)))
token_taken i x bs g e h =
    let q : (lead bs).width ≤ length bs = omega (arith, ap (λ (y : Lead). y.width) e) in
    token_passed i bs g q
    ∙ (ap (λ (y : Lead). token y.kind i ∷ behind y.kind (tokens_from (i + y.width) (drop y.width bs))) (sym e)
    ∙ ap (λ (r : List ℕ). token x.kind i ∷ behind x.kind (tokens_from (i + x.width) r)) (sym (take_rest bs x.width)))
