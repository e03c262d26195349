use Rattle.std.proofs.Common.{◌≡◌, ℕ, ◌+◌, ◌-◌, ◌*◌, ◌%◌, ◌^◌, ◌<◌, List, ◌++◌, length, take, sym, refl, ap, ◌∙◌, subst, arith}
use Rattle.std.proofs.lemmas.Nat.{one_shl, shr_below, mod_below, pow_pos}
use Rattle.packet.specs.Bits.{bits_of, bits_of_number}
use Rattle.packet.proofs.Numbers.{bits_join, join_below}
use Rattle.packet.proofs.Writing.{flush}
use Rattle.packet.proofs.cursor.Cursor.put.Goals as goal

pub loop-held-init : goal.loop-held-init
loop-held-init c =
    let narrow : c.args.width.bits < 64 = omega (arith, c.args.width.narrow) in
    let P : ℕ → Type 0 = λ s. c.args.self.waiting * s + c.args.value % s < 2 ^ (c.args.self.held + c.args.width.bits) in (
      refl,
      subst P (sym (one_shl c.args.width.bits 64 narrow)) (join_below c.args.self.waiting c.args.value c.args.self.held c.args.width.bits c.args.self.small),
      omega (arith, c.args.self.few, c.args.width.narrow),
      refl,
    )

pub overflow_cast-out-in-loop-held : goal.overflow_cast-out-in-loop-held
overflow_cast-out-in-loop-held c =
    let k : ℕ = c.loop-held.held - 8 in
    let e : c.loop-held.held ≡ 8 + k = omega (arith, c.loop-held-test.true) in
    let P : ℕ → Type 0 = λ n. c.loop-held.waiting < 2 ^ n in
    omega (arith, shr_below c.loop-held.waiting 8 k (subst P e c.loop-held.invariant.1))

pub loop-held-preserved : goal.loop-held-preserved
loop-held-preserved c =
    let k : ℕ = c.loop-held.held - 8 in
    let x : ℕ = c.loop-held.waiting in
    let e : 8 + k ≡ c.loop-held.held = omega (arith, c.loop-held-test.true) in
    let narrow : k < 64 = omega (arith, c.loop-held.invariant.2) in
    let inside : c.loop-held.at < length c.loop-held.out = omega (arith, c.loop-held.invariant.3, c.loop-held.auto.out, c.requires.room, c.loop-held-test.true) in
    let P : ℕ → Type 0 = λ s. x % s < 2 ^ k in (
      flush c.loop-held.out c.loop-held.at k x (1 * 2 ^ k % 2 ^ 64) inside (one_shl k 64 narrow)
          ∙ ap (λ (n : ℕ). bits_of (take c.loop-held.at c.loop-held.out) ++ bits_of_number n x) e ∙ c.loop-held.invariant.0,
      subst P (sym (one_shl k 64 narrow)) (mod_below x (2 ^ k) (pow_pos k)),
      omega (arith, c.loop-held.invariant.2),
      omega (arith, c.loop-held.invariant.3, c.loop-held-test.true),
    )

pub invariant_of-result : goal.invariant_of-result
invariant_of-result c = record { few = c.loop-held-test.false; small = c.loop-held.invariant.1 }

pub returns : goal.returns
returns c =
    let narrow : c.args.width.bits < 64 = omega (arith, c.args.width.narrow) in
    let front : List ℕ = bits_of (take c.args.self.at c.args.out.now) in
    record {
      bits =
          c.loop-held.invariant.0
          ∙ ap (λ (s : ℕ). front ++ bits_of_number (c.args.self.held + c.args.width.bits) (c.args.self.waiting * s + c.args.value % s)) (one_shl c.args.width.bits 64 narrow)
          ∙ ap (λ (l : List ℕ). front ++ l) (bits_join c.args.self.held c.args.width.bits c.args.self.waiting c.args.value);
      count = omega (arith, c.loop-held.invariant.3);
    }
