-- One bit of a number set.
use Rattle.std.proofs.Common.{◌≡◌, ℕ, zero, suc, ◌+◌, ◌-◌, ◌*◌, ◌/◌, ◌%◌, ◌^◌, ◌<◌, ◌≤◌, Bool, true, false, cond, eqb, sym, refl, ap, ◌∙◌, ⊎_elim, arith, pow_mono}
use mathlib.Core.Path.{fun_ext}
use lib.Bits.{bit_or}
use Rattle.std.proofs.lemmas.Nat.{pow_pos, pow-add, shl-shr, or_shr, or_mod, pow_below, div_below}
use Rattle.std.proofs.lemmas.Bool.{eq-eqb, ne_eqb, cases_eq, cases_lt}
use Rattle.packet.specs.Contents.{with}
use Rattle.packet.specs.Stands.{present_of}

-- the power's own bit is set, and no other
pub power_bit : (n : ℕ) → 2 ^ n / 2 ^ n % 2 ≡ 1
power_bit n =
    let e : 2 ^ n / 2 ^ n ≡ 1 = ap (λ (k : ℕ). k / 2 ^ n) (omega arith) ∙ shl-shr 1 n in
    ap (λ (k : ℕ). k % 2) e

pub power_low : (n m : ℕ) → m < n → 2 ^ n / 2 ^ m % 2 ≡ 0
power_low n m h =
    let d : ℕ = n - (m + 1) in
    let e : n ≡ d + 1 + m = omega arith in
    let p : 2 ^ n ≡ 2 ^ (d + 1) * 2 ^ m = ap (λ (k : ℕ). 2 ^ k) e ∙ pow-add 2 (d + 1) m in
    let q : 2 ^ (d + 1) ≡ 2 ^ d * 2 = pow-add 2 d 1 in
    let z : 2 ^ n / 2 ^ m ≡ 2 ^ (d + 1) = ap (λ (k : ℕ). k / 2 ^ m) p ∙ shl-shr (2 ^ (d + 1)) m in
    omega arith

pub power_high : (n m : ℕ) → n < m → 2 ^ n / 2 ^ m % 2 ≡ 0
power_high n m h =
    let z : 2 ^ n / 2 ^ m < 1 = div_below (2 ^ n) (2 ^ m) 1 (pow_pos m) (omega (arith, pow_below n m h)) in
    omega arith

-- bits joined one by one
or_one : (x : ℕ) → x < 2 → bit_or x 1 ≡ 1
or_one zero h = refl
or_one (suc zero) h = refl
or_one (suc (suc x)) h = absurd (omega arith)

or_none : (x : ℕ) → x < 2 → bit_or x 0 ≡ x
or_none zero h = refl
or_none (suc zero) h = refl
or_none (suc (suc x)) h = absurd (omega arith)

or_bit : (p q m : ℕ) → bit_or p q / 2 ^ m % 2 ≡ bit_or (p / 2 ^ m % 2) (q / 2 ^ m % 2)
or_bit p q m = ap (λ (k : ℕ). k % 2) (or_shr p q m) ∙ or_mod (p / 2 ^ m) (q / 2 ^ m) 1

pub with_is : (p n : ℕ) → present_of (bit_or p (2 ^ n)) ≡ with n (present_of p)
with_is p n = fun_ext (λ m.
    let low : p / 2 ^ m % 2 < 2 = omega arith in
    ⊎_elim
    (λ (e : m ≡ n).
    let one : 2 ^ n / 2 ^ m % 2 ≡ 1 = ap (λ (k : ℕ). 2 ^ n / 2 ^ k % 2) e ∙ power_bit n in
    ap (λ (k : ℕ). eqb k 1) (or_bit p (2 ^ n) m ∙ ap (bit_or (p / 2 ^ m % 2)) one ∙ or_one (p / 2 ^ m % 2) low)
    ∙ sym (ap (λ (b : Bool). cond b true (present_of p m)) (eq-eqb m n e)))
    (λ (ne : m ≡ n → ⊥).
    let none : 2 ^ n / 2 ^ m % 2 ≡ 0 = ⊎_elim (λ (l : m < n). power_low n m l) (λ (g : n ≤ m). power_high n m (omega arith)) (cases_lt m n) in
    ap (λ (k : ℕ). eqb k 1) (or_bit p (2 ^ n) m ∙ ap (bit_or (p / 2 ^ m % 2)) none ∙ or_none (p / 2 ^ m % 2) low)
    ∙ sym (ap (λ (b : Bool). cond b true (present_of p m)) (ne_eqb m n ne)))
    (cases_eq m n))

-- a byte has eight bits
pub no_bit : (p n : ℕ) → p < 256 → 8 ≤ n → present_of p n ≡ false
no_bit p n h g =
    let most : 2 ^ 8 ≤ 2 ^ n = pow_mono {i = 8} {j = n} g in
    let z : p / 2 ^ n < 1 = div_below p (2 ^ n) 1 (pow_pos n) (omega arith) in
    ne_eqb (p / 2 ^ n % 2) 1 (λ e. omega arith)

-- at first there is none
pub none_there : present_of 0 ≡ (λ (n : ℕ). false)
none_there = fun_ext (λ n.
    let z : 0 / 2 ^ n < 1 = div_below 0 (2 ^ n) 1 (pow_pos n) (omega (arith, pow_pos n)) in
    ne_eqb (0 / 2 ^ n % 2) 1 (λ e. omega arith))
