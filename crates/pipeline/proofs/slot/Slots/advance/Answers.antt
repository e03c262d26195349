use Rattle.std.proofs.Common.{◌≡◌, ℕ, ◌<◌, ◌≤◌, true, List, length, get_or, sym, ap, ◌∙◌, subst, arith}
use Rattle.std.proofs.lemmas.List.{length-set}
use Rattle.pipeline.specs.Apart.{distinct}
use Rattle.pipeline.specs.Stands.{versions_of, stored_in}
use Rattle.pipeline.proofs.Shift.{order, order_turn, state_turn, order_end, state_end}
use Rattle.pipeline.proofs.slot.Slots.advance.Goals as goal

pub loop-stage-preserved : goal.loop-stage-preserved
loop-stage-preserved c =
    let long : length c.loop-stage.self.row ≡ 12 = c.loop-stage.invariant.0 in
    let within : c.loop-stage.stage < length c.loop-stage.self.row = omega (arith, c.loop-stage-test.true) in
    let is = ap (get_or c.loop-stage.self.row c.loop-stage.stage) c.index-self-stage.is in
    let apart : distinct (order c.loop-stage.stage c.loop-stage.self.row c.loop-stage.carry) ≡ true =
    subst (λ (l : List ℕ). distinct l ≡ true) (sym c.loop-stage.invariant.2) c.requires in (
      length-set c.loop-stage.self.row c.loop-stage.stage c.loop-stage.carry ∙ c.loop-stage.invariant.0,
      c.loop-stage.invariant.1,
      order_turn c.loop-stage.stage c.loop-stage.self.row c.loop-stage.carry (get_or c.loop-stage.self.row c.loop-stage.stage c.index-self-stage.result) c.work-carry.result within is c.work-carry.ensures.place
          ∙ c.loop-stage.invariant.2,
      state_turn c.loop-stage.stage c.loop-stage.self.row c.loop-stage.carry (get_or c.loop-stage.self.row c.loop-stage.stage c.index-self-stage.result) c.work-carry.result within is
          (versions_of c.args.versions.now) (stored_in c.loop-stage.store) (stored_in c.work-carry.new.self)
          c.work-carry.ensures.elsewhere c.work-carry.ensures.works apart
          ∙ c.loop-stage.invariant.3,
    )

pub returns : goal.returns
returns c =
    let long : length c.loop-stage.self.row ≡ 12 = c.loop-stage.invariant.0 in
    let end : length c.loop-stage.self.row ≤ c.loop-stage.stage = omega (arith, c.loop-stage-test.false) in
    record {
      twelve = c.loop-stage.invariant.1;
      places = sym (order_end c.loop-stage.stage c.loop-stage.self.row c.loop-stage.carry end) ∙ c.loop-stage.invariant.2;
      slots = sym (state_end (versions_of c.args.versions.now) c.loop-stage.stage (stored_in c.loop-stage.store) c.loop-stage.self.row c.loop-stage.carry end)
          ∙ c.loop-stage.invariant.3;
    }
