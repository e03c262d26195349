use Rattle.std.proofs.Common.{◌≡◌, ◌-◌, length, take, drop, ap, ◌∙◌, arith}
use Rattle.std.proofs.lemmas.List.{take_rest, length-drop}
use Rattle.token.proofs.Cuts.{gap_skipped}
use Rattle.token.proofs.scanner.Scanner.skip.Goals as goal

pub loop-width-preserved : goal.loop-width-preserved
loop-width-preserved c =
    let r = c.loop-width.rest.now in
    let n = c.gap-width.result in
    let l : length (take (length r - n) (drop n r)) ≡ length r - n = ap length (take_rest r n) ∙ length-drop n r in (
      omega (arith, l, c.loop-width.invariant.0, c.gap-width.ensures.within),
      gap_skipped c.loop-width.at n r c.gap-width.ensures.value c.if-width-eq0.false c.gap-width.ensures.within ∙ c.loop-width.invariant.1,
    )
