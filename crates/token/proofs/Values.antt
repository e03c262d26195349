-- Numbers from 2 to the 32nd on need not be told apart while their digits are read.
use Rattle.std.proofs.Common.{◌≡◌, ℕ, ◌+◌, ◌-◌, ◌*◌, ◌^◌, ◌<◌, ◌≤◌, min, Bool, true, false, cond, ltb, ◌⊎◌, List, [], ◌∷◌, length, get_or, drop, Some, None, Option, sym, refl, ap, ◌∙◌, inl, inr, le_of_lt, mul-le-mul_left, mul-one, arith}
use native.Mathlib.Nat.{min-eq_left, min-eq_right}
use Rattle.std.specs.Char.{digit_value}
use Rattle.std.specs.Option.{option_or}
use Rattle.std.proofs.lemmas.List.{drop_more, drop_all}
use Rattle.std.proofs.lemmas.Bool.{cases_lt, lt-ltb, le-ltb}
use Rattle.token.specs.Tokens.{Kind, Number, Huge, digit, value_behind, number, within}
use Rattle.token.specs.Stands.{capped}

abbrev Alike : ℕ → ℕ → Type 0
Alike n m = (n ≡ m) ⊎ ((2 ^ 32 ≤ n) × (2 ^ 32 ≤ m))

large_more : (n base d : ℕ) → 1 ≤ base → 2 ^ 32 ≤ n → 2 ^ 32 ≤ n * base + d
large_more n base d h p =
    let a : n * 1 ≤ n * base = mul-le-mul_left n h in
    let b : n * 1 ≡ n = mul-one n in
    omega (arith, a, b)

alike_more : (n m base d : ℕ) → 1 ≤ base → Alike n m → Alike (n * base + d) (m * base + d)
alike_more n m base d h a = elim a [
  | inl e ↦ inl (ap (λ (x : ℕ). x * base + d) e)
  | inr p ↦ inr (large_more n base d h p.0, large_more m base d h p.1)
]

pub alike_value : (base : ℕ) (bs : List ℕ) (n m : ℕ) → 1 ≤ base → Alike n m → capped (value_behind base n bs) ≡ capped (value_behind base m bs)
unfolding value_behind
alike_value base [] n m h a = elim a [
  | inl e ↦ ap (λ (x : ℕ). Some (min x (2 ^ 32))) e
  | inr p ↦ ap Some (min-eq_right p.0 ∙ sym (min-eq_right p.1))
]
alike_value base (b ∷ bs) n m h a =
    elim (ltb (digit b) base) as (λ t. capped (cond t (value_behind base (n * base + digit b) bs) None) ≡ capped (cond t (value_behind base (m * base + digit b) bs) None)) [
      | true ↦ alike_value base bs (n * base + digit b) (m * base + digit b) h (alike_more n m base (digit b) h a)
      | false ↦ refl
    ]

capped_alike : (n : ℕ) → Alike (min n (2 ^ 32)) n
capped_alike n = elim (cases_lt n (2 ^ 32)) [
  | inl l ↦ inl (min-eq_left (le_of_lt l))
  | inr g ↦ inr (let e : min n (2 ^ 32) ≡ 2 ^ 32 = min-eq_right g in omega (arith, e), g)
]

value_at : (base n : ℕ) (bs : List ℕ) (i : ℕ) → i < length bs →
    value_behind base n (drop i bs) ≡ cond (ltb (digit (get_or bs i 0)) base) (value_behind base (n * base + digit (get_or bs i 0)) (drop (i + 1) bs)) None
unfolding value_behind
value_at base n bs i h = rw (drop_more bs i 0 h) refl

pub value_more : (base n : ℕ) (bs : List ℕ) (i : ℕ) → 1 ≤ base → i < length bs → digit (get_or bs i 0) < base →
    capped (value_behind base (min (n * base + digit (get_or bs i 0)) (2 ^ 32)) (drop (i + 1) bs)) ≡ capped (value_behind base n (drop i bs))
value_more base n bs i h l t =
    let m : ℕ = n * base + digit (get_or bs i 0) in
    alike_value base (drop (i + 1) bs) (min m (2 ^ 32)) m h (capped_alike m)
    ∙ sym (ap capped (value_at base n bs i l ∙ ap (λ (x : Bool). cond x (value_behind base m (drop (i + 1) bs)) None) (lt-ltb (digit (get_or bs i 0)) base t)))

pub value_none : (base n : ℕ) (bs : List ℕ) (i : ℕ) → i < length bs → base ≤ digit (get_or bs i 0) → capped (value_behind base n (drop i bs)) ≡ None
value_none base n bs i l t =
    ap capped (value_at base n bs i l ∙ ap (λ (x : Bool). cond x (value_behind base (n * base + digit (get_or bs i 0)) (drop (i + 1) bs)) None) (le-ltb (digit (get_or bs i 0)) base t))

pub value_end : (base n : ℕ) (bs : List ℕ) (i : ℕ) → length bs ≤ i → n ≤ 2 ^ 32 → capped (value_behind base n (drop i bs)) ≡ Some n
unfolding value_behind
value_end base n bs i l h = rw (drop_all i bs l) (ap Some (min-eq_left h))

-- what a number is read as goes by its capped value
pub number_capped : (o : Option ℕ) (k : Kind) → number (capped o) k ≡ number o k
number_capped (Some n) k = elim (cases_lt n (2 ^ 32)) [
  | inl l ↦ ap (λ (x : ℕ). cond (ltb x (2 ^ 32)) (Number x) Huge) (min-eq_left (le_of_lt l))
  | inr g ↦ ap (λ (x : ℕ). cond (ltb x (2 ^ 32)) (Number x) Huge) (min-eq_right g) ∙ sym (ap (λ (t : Bool). cond t (Number n) Huge) (le-ltb n (2 ^ 32) g))
]
number_capped None k = refl

-- the library's value of a digit is ours, where it is below the base
pub digit_same : (base b : ℕ) → base ≤ 16 → digit_value b < base → digit_value b ≡ digit b
digit_same base b h l = grind arith

in_decimal : (b : ℕ) → within 48 57 b ≡ true → digit_value b ≡ b - 48
in_decimal b t = grind arith

in_small : (b : ℕ) → within 97 102 b ≡ true → digit_value b ≡ b - 87
in_small b t = grind arith

in_large : (b : ℕ) → within 65 70 b ≡ true → digit_value b ≡ b - 55
in_large b t = grind arith

pub digit_none : (base b : ℕ) → base ≤ 16 → base ≤ digit_value b → base ≤ digit b
digit_none base b h l = by_test (within 48 57 b) (within 97 102 b) (within 65 70 b) refl refl refl
  where
    by_test : (s t u : Bool) → within 48 57 b ≡ s → within 97 102 b ≡ t → within 65 70 b ≡ u → base ≤ cond s (b - 48) (cond t (b - 87) (cond u (b - 55) 16))
    by_test true t u e f g = omega (arith, in_decimal b e, l)
    by_test false true u e f g = omega (arith, in_small b f, l)
    by_test false false true e f g = omega (arith, in_large b g, l)
    by_test false false false e f g = h

-- the first of two readings that gives a number decides
pub number_either : (n : ℕ) (o p : Option ℕ) (k : Kind) → Some n ≡ option_or (capped o) (capped p) → number (Some n) k ≡ number o (number p k)
number_either n (Some m) p k e = ap (λ (q : Option ℕ). number q k) e ∙ number_capped (Some m) k
number_either n None p k e = ap (λ (q : Option ℕ). number q k) e ∙ number_capped p k
