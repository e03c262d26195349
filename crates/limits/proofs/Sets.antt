-- Sets of tables as the bits of numbers.
use Rattle.std.proofs.Common.{◌≡◌, ℕ, zero, suc, ◌+◌, ◌*◌, ◌/◌, ◌%◌, ◌^◌, ◌<◌, min, max, true, ap, ◌∙◌, arith}
use lib.Bits.{bit_and, bit_or, and_step, or_step, and_zero_r, or_comm}
use Rattle.std.proofs.lemmas.Bool.{ltb-true, lt-ltb}
use Rattle.source.specs.Bodies.{holds, insert}

power_half : (t : ℕ) → 2 ^ suc t / 2 ≡ 2 ^ t
power_half t = omega arith

power_even : (t : ℕ) → 2 ^ suc t % 2 ≡ 0
power_even t = omega arith

-- the first bit, and the others
and_first : (a : ℕ) → bit_and a (2 ^ 0) ≡ min (a % 2) 1
and_first a = and_step a 1 ∙ omega (arith, and_zero_r (a / 2))

and_further : (a t : ℕ) → bit_and a (2 ^ suc t) ≡ bit_and (a / 2) (2 ^ t) * 2
and_further a t =
    and_step a (2 ^ suc t)
    ∙ (ap (λ (p : ℕ). bit_and (a / 2) p * 2 + min (a % 2) (2 ^ suc t % 2)) (power_half t) ∙ (ap (λ (p : ℕ). bit_and (a / 2) (2 ^ t) * 2 + min (a % 2) p) (power_even t) ∙ omega arith))

or_first_lem : (a b : ℕ) → bit_or a b % 2 ≡ max (a % 2) (b % 2)
or_first_lem a b = omega (arith, or_step a b)

or_further : (a b : ℕ) → bit_or a b / 2 ≡ bit_or (a / 2) (b / 2)
or_further a b = omega (arith, or_step a b)

or_left : (a b t : ℕ) → 0 < bit_and a (2 ^ t) → 0 < bit_and (bit_or a b) (2 ^ t)
or_left a b zero h = omega (arith, and_first a, and_first (bit_or a b), or_first_lem a b)
or_left a b (suc t) h =
    let p : 0 < bit_and (a / 2) (2 ^ t) = omega (arith, and_further a t) in
    let q : 0 < bit_and (bit_or (a / 2) (b / 2)) (2 ^ t) = or_left (a / 2) (b / 2) t p in
    let r : bit_and (bit_or a b / 2) (2 ^ t) ≡ bit_and (bit_or (a / 2) (b / 2)) (2 ^ t) = ap (λ (x : ℕ). bit_and x (2 ^ t)) (or_further a b) in
    omega (arith, and_further (bit_or a b) t)

and_self : (t : ℕ) → 0 < bit_and (2 ^ t) (2 ^ t)
and_self zero = omega (arith, and_first 1)
and_self (suc t) =
    let r : bit_and (2 ^ suc t / 2) (2 ^ t) ≡ bit_and (2 ^ t) (2 ^ t) = ap (λ (x : ℕ). bit_and x (2 ^ t)) (power_half t) in
    omega (arith, and_further (2 ^ suc t) t, and_self t)

-- all tables of a set are in another
pub record Sub (a b : ℕ) : Type 0 where
  pub all : (t : ℕ) → holds a t ≡ true → holds b t ≡ true

pub sub_refl : (a : ℕ) → Sub a a
sub_refl a = record { all = λ t h. h }

pub sub_trans : (a b c : ℕ) → Sub a b → Sub b c → Sub a c
sub_trans a b c h k = record { all = λ t p. k.all t (h.all t p) }

pub sub_left : (a b : ℕ) → Sub a (bit_or a b)
sub_left a b = record { all = λ t h. lt-ltb 0 _ (or_left a b t (ltb-true 0 _ h)) }

pub sub_right : (a b : ℕ) → Sub b (bit_or a b)
sub_right a b = record { all = λ t h. ap (λ (x : ℕ). holds x t) (or_comm a b) ∙ (sub_left b a).all t h }

pub inserted : (a t : ℕ) → holds (insert a t) t ≡ true
inserted a t = (sub_right a (2 ^ t)).all t (lt-ltb 0 _ (and_self t))
