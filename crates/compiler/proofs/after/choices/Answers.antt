use Rattle.std.proofs.Common.{vec_items, ap}
use Rattle.packet.specs.Header as packet
use Rattle.source.specs.Names.{entries_of}
use Rattle.source.specs.Stands.{choices_of as choices_seen}
use Rattle.compiler.specs.Packaging.{choices_of}
use Rattle.compiler.proofs.Counting.{picked, passed, all_picked}
use Rattle.compiler.proofs.after.choices.Goals as goal
use Rattle.compiler.proofs.after.choices.Goals.{then-choice-number+in_ok-push, else-choice-number}

pub loop-choice-preserved : goal.loop-choice-preserved
loop-choice-preserved c =
    let hs = entries_of c.args.headers.now in
    let all = choices_of hs c.args.number (choices_seen c.args.chosen.now) in
    elim c.if-choice-number.branch [
      | then-choice-number+in_ok-push w ↦
          rw w.choices-is (picked hs c.args.number c.args.chosen.now c.loop-choice.choice-index c.choice-item.result
          (vec_items c.loop-choice.choices) (vec_items w.push.new.self) (record { value = c.choice-item.result.value; next = w.follow.result }) all
          c.loop-choice-test.true c.choice-item.is w.if-choice-number.true
          (ap (λ (n : packet.Next). record { value = c.choice-item.result.value; next = n }) w.follow.ensures) w.in_ok-push.ensures.items c.loop-choice.invariant)
      | else-choice-number w ↦
          rw w.choices-is (passed hs c.args.number c.args.chosen.now c.loop-choice.choice-index c.choice-item.result
          (vec_items c.loop-choice.choices) all c.loop-choice-test.true c.choice-item.is w.if-choice-number.false c.loop-choice.invariant)
    ]

pub returns : goal.returns
returns c =
    let hs = entries_of c.args.headers.now in
    all_picked hs c.args.number c.args.chosen.now c.loop-choice.choice-index (vec_items c.loop-choice.choices) (choices_of hs c.args.number (choices_seen c.args.chosen.now))
    c.loop-choice-test.false c.loop-choice.invariant
