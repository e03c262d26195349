-- Which headers are there, as bits of a byte and as a number.
use Rattle.std.proofs.Common.{◌≡◌, ℕ, zero, suc, ◌+◌, ◌*◌, ◌/◌, ◌%◌, ◌^◌, ◌<◌, Bool, cond, eqb, ltb, List, get_or, sym, refl, ap, ◌∙◌, ap₂, mul_comm, pow-suc, arith}
use native.Mathlib.Nat.{div-div-eq-div-mul}
use Rattle.model.specs.Packet.{Packet, besides}
use Rattle.program.specs.Stands.{over}
use Rattle.program.specs.declared.field.Fields.{Fields}
use Rattle.packet.specs.Carrying.{presence, carried}
use Rattle.packet.specs.Stands.{present_of, holding}

presence_ext : (n : ℕ) (f g : ℕ → Bool) → ((i : ℕ) → f i ≡ g i) → presence n f ≡ presence n g
unfolding presence
presence_ext zero f g h = refl
presence_ext (suc n) f g h =
    ap₂ (λ (b : Bool) (k : ℕ). cond b 1 0 + 2 * k) (h 0) (presence_ext n (λ i. f (suc i)) (λ i. g (suc i)) (λ i. h (suc i)))

-- bit i + 1 of a number is bit i of its half
next_bit : (b i : ℕ) → present_of b (suc i) ≡ present_of (b / 2) i
next_bit b i =
    let double : 2 ^ suc i ≡ 2 * 2 ^ i = pow-suc 2 i ∙ mul_comm (2 ^ i) 2 in
    ap (λ (n : ℕ). eqb (n % 2) 1) (ap (λ (m : ℕ). b / m) double ∙ sym (div-div-eq-div-mul b 2 (2 ^ i)))

as_number : (m : ℕ) → m < 2 → cond (eqb m 1) 1 0 ≡ m
as_number zero h = refl
as_number (suc zero) h = refl
as_number (suc (suc m)) h = absurd (omega (arith, h))

first_bit : (b : ℕ) → cond (present_of b 0) 1 0 ≡ b % 2
first_bit b =
    let small : b / 1 % 2 < 2 = omega arith in
    let same : b / 1 % 2 ≡ b % 2 = omega arith in
    as_number (b / 1 % 2) small ∙ same

presence_below : (n b : ℕ) → b < 2 ^ n → presence n (present_of b) ≡ b
unfolding presence
presence_below zero b h = omega (arith, h)
presence_below (suc n) b h =
    let rest : presence n (λ i. present_of b (suc i)) ≡ b / 2 = presence_ext n (λ i. present_of b (suc i)) (present_of (b / 2)) (next_bit b) ∙ presence_below n (b / 2) (half n b h) in
    ap₂ (λ (x k : ℕ). x + 2 * k) (first_bit b) rest ∙ whole b
  where
    half : (m c : ℕ) → c < 2 ^ suc m → c / 2 < 2 ^ m
    half m c l =
        let e : 2 ^ suc m ≡ 2 ^ m * 2 = pow-suc 2 m in
        omega (arith, l, e)

    whole : (c : ℕ) → c % 2 + 2 * (c / 2) ≡ c
    whole c = omega arith

-- a packet that was taken apart comes in as it is carried
pub comes_carried : (x : Fields) (present : ℕ) (bytes : List ℕ) → present < 256 → over x (besides present bytes) ≡ carried (holding x present bytes)
comes_carried x present bytes h =
    let with-bits : ℕ → Packet = λ n f. cond (ltb f 64) (get_or x.of f 0) (besides n bytes f) in
    ap with-bits (sym (presence_below 8 present h))
