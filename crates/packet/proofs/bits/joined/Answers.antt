use Rattle.std.proofs.Common.{ℕ, ◌+◌, ◌*◌, ◌<◌, ◌≤◌, List, length, get_or, take, sym, ap, ◌∙◌, arith}
use Rattle.std.proofs.lemmas.List.{take_more, take_all, length-take-le}
use Rattle.packet.specs.Bits.{bits_of, number_of}
use Rattle.packet.proofs.Numbers.{number_small, number_push, number_of_none}
use Rattle.packet.proofs.bits.joined.Goals as goal

pub loop-byte-init : goal.loop-byte-init
loop-byte-init c = sym number_of_none

pub overflow_mul-number : goal.overflow_mul-number
overflow_mul-number c =
    let short : length (take c.loop-byte.byte-index c.args.bytes.now) ≤ 4 = omega (arith, length-take-le c.loop-byte.byte-index c.args.bytes.now (omega arith)) in
    omega (arith, c.loop-byte.invariant, number_small (take c.loop-byte.byte-index c.args.bytes.now) short)

pub overflow_add-number : goal.overflow_add-number
overflow_add-number c =
    let short : length (take c.loop-byte.byte-index c.args.bytes.now) ≤ 4 = omega (arith, length-take-le c.loop-byte.byte-index c.args.bytes.now (omega arith)) in
    let byte : get_or c.args.bytes.now c.loop-byte.byte-index 0 < 256 = omega arith in
    omega (arith, c.loop-byte.invariant, number_small (take c.loop-byte.byte-index c.args.bytes.now) short)

pub loop-byte-preserved : goal.loop-byte-preserved
loop-byte-preserved c =
    let bs : List ℕ = c.args.bytes.now in
    let i : ℕ = c.loop-byte.byte-index in
    let byte : get_or c.args.bytes.now c.loop-byte.byte-index 0 < 256 = omega arith in
    ap (λ (n : ℕ). n * 256 + get_or bs i 0) c.loop-byte.invariant
    ∙ sym (number_push (take i bs) (get_or bs i 0) byte)
    ∙ ap (λ (l : List ℕ). number_of (bits_of l)) (sym (take_more bs i 0 c.loop-byte-test.true))

pub returns : goal.returns
returns c = c.loop-byte.invariant ∙ ap (λ (l : List ℕ). number_of (bits_of l)) (take_all c.loop-byte.byte-index c.args.bytes.now (omega arith))
