-- Sets of tables as the bits of numbers.
use Rattle.std.proofs.Common.{◌≡◌, ℕ, zero, suc, ◌+◌, ◌-◌, ◌*◌, ◌/◌, ◌%◌, ◌^◌, ◌<◌, ◌≤◌, max, true, false, ltb, ◌⊎◌, sym, refl, ap, ◌∙◌, subst, inl, inr, arith}
use lib.Bits.{bit_and, bit_or, and_high, and_self, and_shifted, and_comm, and_zero_l, or_step, or_shr}
use Rattle.std.proofs.lemmas.Nat.{pow_pos, pow-add, pow_below}
use Rattle.std.proofs.lemmas.Bool.{ltb-true, lt-ltb, le-ltb, cases_order}
use Rattle.source.specs.Bodies.{holds, insert}

-- the bit of a table
abbrev bit : ℕ → ℕ → ℕ
bit a t = a / 2 ^ t % 2

and_bit : (a t : ℕ) → bit_and a (2 ^ t) ≡ bit a t * 2 ^ t
and_bit a t =
    let p : 2 ^ (1 + t) ≡ 2 * 2 ^ t = pow-add 2 1 t in
    let e : 2 ^ (1 + t) - 2 ^ t ≡ 2 ^ t = omega arith in
    ap (bit_and a) (sym e) ∙ and_high a 1 t

has_bit : (m b x : ℕ) → m ≡ b * x → b < 2 → ltb 0 m ≡ true → b ≡ 1
has_bit m zero x e l h = omega (arith, ltb-true 0 m h)
has_bit m (suc zero) x e l h = refl
has_bit m (suc (suc b)) x e l h = absurd (omega arith)

bit_is : (a t : ℕ) → holds a t ≡ true → bit a t ≡ 1
bit_is a t h = has_bit (bit_and a (2 ^ t)) (bit a t) (2 ^ t) (and_bit a t) (omega arith) h

is_bit : (a t : ℕ) → bit a t ≡ 1 → holds a t ≡ true
is_bit a t e =
    let p = pow_pos t in
    let m : bit_and a (2 ^ t) ≡ 1 * 2 ^ t = and_bit a t ∙ ap (λ (b : ℕ). b * 2 ^ t) e in
    lt-ltb 0 (bit_and a (2 ^ t)) (omega arith)

max_bit : (c p q : ℕ) → (c * 2 + max (p % 2) (q % 2)) % 2 ≡ max (p % 2) (q % 2)
max_bit c p q = omega arith

or_bit : (a b t : ℕ) → bit (bit_or a b) t ≡ max (bit a t) (bit b t)
or_bit a b t = ap (λ (m : ℕ). m % 2) (or_shr a b t ∙ or_step (a / 2 ^ t) (b / 2 ^ t)) ∙ max_bit _ (a / 2 ^ t) (b / 2 ^ t)

max_left : (a b : ℕ) → a % 2 ≡ 1 → max (a % 2) (b % 2) ≡ 1
max_left a b e = omega arith

max_right : (a b : ℕ) → b % 2 ≡ 1 → max (a % 2) (b % 2) ≡ 1
max_right a b e = omega arith

max_either : (a b : ℕ) → a ≤ 1 → max a b ≡ 1 → (a ≡ 1) ⊎ (b ≡ 1)
max_either zero b l e = inr (omega arith)
max_either (suc zero) b l e = inl refl
max_either (suc (suc a)) b l e = absurd (omega arith)

-- a table is in a join if it is in one of two sets
pub holds_left : (a b t : ℕ) → holds a t ≡ true → holds (bit_or a b) t ≡ true
holds_left a b t h = is_bit (bit_or a b) t (or_bit a b t ∙ max_left (a / 2 ^ t) (b / 2 ^ t) (bit_is a t h))

pub holds_right : (a b t : ℕ) → holds b t ≡ true → holds (bit_or a b) t ≡ true
holds_right a b t h = is_bit (bit_or a b) t (or_bit a b t ∙ max_right (a / 2 ^ t) (b / 2 ^ t) (bit_is b t h))

pub holds_either : (a b t : ℕ) → holds (bit_or a b) t ≡ true → (holds a t ≡ true) ⊎ (holds b t ≡ true)
holds_either a b t h =
    elim (max_either (bit a t) (bit b t) (omega arith) (sym (or_bit a b t) ∙ bit_is (bit_or a b) t h)) [ inl e ↦ inl (is_bit a t e) | inr e ↦ inr (is_bit b t e) ]

-- the set of one table has this table only
one_holds : (t : ℕ) → holds (2 ^ t) t ≡ true
one_holds t = lt-ltb 0 (bit_and (2 ^ t) (2 ^ t)) (subst (λ (m : ℕ). 0 < m) (sym (and_self (2 ^ t))) (pow_pos t))

apart : (u t : ℕ) → u < t → bit_and (2 ^ t) (2 ^ u) ≡ 0
apart u t l = ap (λ (m : ℕ). bit_and m (2 ^ u)) (sym one) ∙ and_shifted 1 t (2 ^ u) (pow_below u t l)
  where
    one : 1 * 2 ^ t ≡ 2 ^ t
    one = omega arith

nothing_held : {A : Type 0} (m : ℕ) → m ≡ 0 → ltb 0 m ≡ true → A
nothing_held m e h = absurd (omega (arith, ltb-true 0 m h))

one_only : (u t : ℕ) → holds (2 ^ u) t ≡ true → t ≡ u
one_only u t h = elim (cases_order u t) [
  | inl e ↦ sym e
  | inr o ↦ elim o [
    | inl l ↦ nothing_held (bit_and (2 ^ u) (2 ^ t)) (and_comm (2 ^ u) (2 ^ t) ∙ apart u t l) h
    | inr l ↦ nothing_held (bit_and (2 ^ u) (2 ^ t)) (apart t u l) h
  ]
]

pub holds_inserted : (a t : ℕ) → holds (insert a t) t ≡ true
holds_inserted a t = holds_right a (2 ^ t) t (one_holds t)

pub holds_insert : (a u t : ℕ) → holds (insert a u) t ≡ true → (holds a t ≡ true) ⊎ (t ≡ u)
holds_insert a u t h = elim (holds_either a (2 ^ u) t h) [ inl e ↦ inl e | inr e ↦ inr (one_only u t e) ]

pub holds_nothing : (t : ℕ) → holds 0 t ≡ false
holds_nothing t = le-ltb 0 (bit_and 0 (2 ^ t)) (omega (arith, and_zero_l (2 ^ t)))
