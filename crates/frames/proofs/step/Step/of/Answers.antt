-- The bytes of a whole frame are those in front of what follows it.
use Rattle.std.proofs.Common.{◌≡◌, ◌-◌, length, sym, ap, ◌∙◌, arith}
use Rattle.frames.specs.Reading.{size}
use Rattle.frames.specs.Serving.{on_whole, on_front}
use Rattle.frames.proofs.Parts.{whole_size}
use Rattle.frames.proofs.step.Step.of.Goals as goal

pub overflow_sub-bytes : goal.overflow_sub-bytes
overflow_sub-bytes c =
    omega (arith, whole_size c.args.bytes.now c.in-Whole.kind c.in-Whole.body.now c.in-Whole.rest.now (sym c.in-Whole.ensures))

pub returns-in-Whole : goal.returns-in-Whole
returns-in-Whole c =
    let n : length c.args.bytes.now - length c.in-Whole.rest.now ≡ size c.in-Whole.kind c.in-Whole.body.now = omega (arith, whole_size c.args.bytes.now c.in-Whole.kind c.in-Whole.body.now c.in-Whole.rest.now (sym c.in-Whole.ensures)) in
    c.whole.ensures ∙ (ap (on_whole c.in-Whole.kind) n ∙ ap (λ r. on_front r c.args.ended) c.in-Whole.ensures)
