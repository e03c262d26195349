use Rattle.std.proofs.Common.{◌≡◌, ℕ, ◌+◌, ◌-◌, ◌*◌, ◌/◌, ◌%◌, ◌^◌, ◌<◌, List, take, drop, ap, ◌∙◌, ap₂, arith}
use Rattle.std.proofs.lemmas.Nat.{one_shl}
use Rattle.packet.specs.Bits.{bits_of, number_of}
use Rattle.packet.proofs.Numbers.{number_touched}
use Rattle.packet.proofs.bits.Bytes.number_at.Goals as goal

pub returns : goal.returns
returns c =
    let bs : List ℕ = c.args.self.now.all.now in
    let at : ℕ = c.args.at in
    let w : ℕ = c.args.width.bits in
    let p : ℕ = at / 8 in
    let n : ℕ = c.div_ceil-last.result - at / 8 in
    let s : ℕ = 8 * c.div_ceil-last.result - (at + w) in
    let narrow : w < 64 = omega (arith, c.args.width.narrow) in
    let place : 8 * p + at % 8 ≡ at = omega arith in
    ap₂ (λ (m k : ℕ). m / 2 ^ s % k) c.joined-touched.ensures (one_shl w 64 narrow)
    ∙ number_touched bs p n (at % 8) w s (omega (arith, c.div_ceil-last.ensures)) (omega (arith, c.div_ceil-last.ensures, c.requires))
    ∙ ap (λ (k : ℕ). number_of (take w (drop k (bits_of bs)))) place
