use Rattle.std.proofs.Common.{◌≡◌, ℕ, ◌+◌, ◌*◌, ◌^◌, ◌<◌, ◌≤◌, min, get_or, drop, sym, ap, ◌∙◌, arith}
use native.Mathlib.Nat.{min-le_right}
use Rattle.std.specs.Char.{digit_value}
use Rattle.token.specs.Tokens.{digit, value_behind}
use Rattle.token.specs.Stands.{capped}
use Rattle.token.proofs.Values.{value_more, value_none, value_end, digit_same, digit_none}
use Rattle.token.proofs.lead.value.Goals as goal

pub returns-in_err-digit : goal.returns-in_err-digit
returns-in_err-digit c =
    let b : ℕ = get_or c.args.digits.now c.loop-byte.byte-index 0 in
    let l : c.args.base ≤ digit_value b = omega (arith, c.in_err-digit.ensures.value) in
    c.from_residual.ensures ∙ (sym (value_none c.args.base c.loop-byte.sum c.args.digits.now c.loop-byte.byte-index c.loop-byte-test.true (digit_none c.args.base b c.requires.1 l)) ∙ c.loop-byte.invariant.1)

pub loop-byte-preserved : goal.loop-byte-preserved
loop-byte-preserved c =
    let b : ℕ = get_or c.args.digits.now c.loop-byte.byte-index 0 in
    let h = c.in_ok-digit.ensures.value in
    let s : digit_value b ≡ digit b = digit_same c.args.base b c.requires.1 h.0 in
    let l : digit b < c.args.base = omega (arith, s, h.0) in
    let e : c.min-sum.result ≡ min (c.loop-byte.sum * c.args.base + digit b) (2 ^ 32) =
    c.min-sum.ensures ∙ ap (λ (x : ℕ). min (c.loop-byte.sum * c.args.base + x) (2 ^ 32)) (h.1 ∙ s) in (
      omega (arith, e, min-le_right (c.loop-byte.sum * c.args.base + digit b) (2 ^ 32)),
      ap (λ (x : ℕ). capped (value_behind c.args.base x (drop (c.loop-byte.byte-index + 1) c.args.digits.now))) e
          ∙ (value_more c.args.base c.loop-byte.sum c.args.digits.now c.loop-byte.byte-index (omega (arith, c.requires.0)) c.loop-byte-test.true l ∙ c.loop-byte.invariant.1),
    )

pub returns : goal.returns
returns c = sym (value_end c.args.base c.loop-byte.sum c.args.digits.now c.loop-byte.byte-index c.loop-byte-test.false c.loop-byte.invariant.0) ∙ c.loop-byte.invariant.1
