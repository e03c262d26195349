use Rattle.std.proofs.Common.{◌≡◌, ℕ, ◌-◌, ◌<◌, ◌≤◌, List, length, ap, arith}
use borrow.Rule.Slice.PartMut.{put_mid, same_len_mid}
use Rattle.std.proofs.lemmas.List.{take_rest, length-drop}
use Rattle.switch.specs.Stands.{mode_of}
use Rattle.switch.proofs.Feeds.{positive, fed_none, fed_step, fed_wait}
use Rattle.switch.proofs.switch.Switch.feed.Goals as goal

pub loop-step-init : goal.loop-step-init
loop-step-init c = (fed_none (mode_of c.args.self.now.state) c.args.bytes.now c.args.out.now, omega arith, omega arith, omega arith, omega arith)

pub returns-then-step-eq0 : goal.returns-then-step-eq0
returns-then-step-eq0 c =
    let waits = fed_wait (mode_of c.args.self.now.state) (mode_of c.loop-step.self.state) (mode_of c.step.new.self.state) c.args.bytes.now c.args.out.now c.loop-step.out c.step.new.out
    c.loop-step.used c.loop-step.written c.in-Some.step.used c.in-Some.step.written c.loop-step.invariant.0 c.in-Some.ensures.does c.if-step-eq0.true in
    record { does = waits.0; all = λ _. waits.1; used = c.loop-step.invariant.1; written = omega (arith, c.loop-step.invariant.2, c.loop-step.invariant.3) }

pub loop-step-preserved : goal.loop-step-preserved
loop-step-preserved c =
    let out : List ℕ = put_mid c.loop-step.written (length c.loop-step.out - c.loop-step.written) c.loop-step.out c.step.new.out in
    let long : length out ≡ length c.loop-step.out =
    same_len_mid c.loop-step.written (length c.loop-step.out - c.loop-step.written) c.loop-step.out c.step.new.out c.step.auto.out in
    let some : 0 < c.in-Some.step.used = positive c.in-Some.step.used c.if-step-eq0.false in
    let inside : c.in-Some.step.used ≤ length c.args.bytes.now - c.loop-step.used =
    omega (arith, c.in-Some.ensures.used, ap length (take_rest c.args.bytes.now c.loop-step.used), length-drop c.loop-step.used c.args.bytes.now) in
    let outside : c.in-Some.step.written ≤ length c.loop-step.out - c.loop-step.written =
    omega (arith, c.in-Some.ensures.written, ap length (take_rest c.loop-step.out c.loop-step.written), length-drop c.loop-step.written c.loop-step.out) in (
      fed_step (mode_of c.args.self.now.state) (mode_of c.loop-step.self.state) (mode_of c.step.new.self.state) c.args.bytes.now c.args.out.now c.loop-step.out c.step.new.out
          c.loop-step.used c.loop-step.written c.in-Some.step.used c.in-Some.step.written c.loop-step.invariant.0 c.in-Some.ensures.does some,
      omega (arith, inside, c.loop-step.invariant.1),
      omega (arith, long, outside, c.loop-step.invariant.2),
      omega (arith, long, c.loop-step.invariant.3),
      omega (arith, long, c.loop-step.invariant.4),
    )
