use Rattle.std.proofs.Common.{◌≡◌, ◌-◌, length, vec_items, ◌∙◌, subst, arith, MatchResult}
use Rattle.std.proofs.lemmas.List.{length-set, nil_from_length}
use Rattle.std.proofs.lemmas.Result.{err_from_is_err_and}
use Rattle.model.specs.Stopping.{Verdict, Placed}
use Rattle.program.specs.Stands.{nodes_of, statements_of}
use Rattle.placement.specs.declared.branch.Branch.{Branch}
use Rattle.placement.specs.Faults.{Refuses}
use Rattle.placement.specs.Offsets.{lowest_of}
use Rattle.placement.proofs.Bounds.{one_longer, fewer_left}
use Rattle.placement.proofs.Turns.{begun, refuses, acts, applies, branches, is_whole, waits, goes_back}
use Rattle.placement.proofs.place.Goals as goal

pub loop-pending-init : goal.loop-pending-init
loop-pending-init c =
    begun c.args.end (statements_of c.args.statements.now) (vec_items c.new-row.result) (vec_items c.new-pending.result) c.new-row.ensures.items c.new-pending.ensures.items

pub returns-in_err-stage : goal.returns-in_err-stage
returns-in_err-stage c =
    let e = err_from_is_err_and c.from_residual.result c.from_residual.ensures.1 in
    rw (e.1, e.2) (refuses c.loop-pending.invariant c.step_at-step.result c.step_at-step.ensures _ _ c.loop-pending.row.ok.0 c.in_err-stage.ensures)

pub returns-in_default : goal.returns-in_default
returns-in_default c =
    let same = c.loop-pending.pending.ok.0 in
    let none = nil_from_length (vec_items c.loop-pending.pending) (omega (arith, c.in_default.ensures.cases.0)) in
    let whole = is_whole c.loop-pending.invariant c.step_at-step.result c.step_at-step.ensures (vec_items c.append.new.row) (lowest_of c.append.new.noted) c.in_ok-stage.ensures c.in-End.is none in
    subst (λ (z : Verdict). MatchResult c.settled.result (λ row. z ≡ Placed (nodes_of (vec_items row))) (λ f. Refuses f z)) whole c.settled.ensures

pub resolved-requires : goal.resolved-requires
resolved-requires c =
    let stands = waits c.loop-pending.invariant c.step_at-step.result c.step_at-step.ensures (vec_items c.append.new.row) (lowest_of c.append.new.noted) c.in_ok-stage.ensures (vec_items c.pop.new.self) c.in-Some.branch c.in-Some.ensures.items in
    let long = one_longer (vec_items c.append.new.row) (lowest_of c.append.new.noted) c.in_ok-stage.ensures in
    let same = c.append.new.row.ok.0 in
    (omega (arith, c.len-no_node.ensures), omega (arith, c.in_ok-stage.ensures.fits, c.len-no_node.ensures))

pub index_mut-requires : goal.index_mut-requires
index_mut-requires c =
    let stands = waits c.loop-pending.invariant c.step_at-step.result c.step_at-step.ensures (vec_items c.append.new.row) (lowest_of c.append.new.noted) c.in_ok-stage.ensures (vec_items c.pop.new.self) c.in-Some.branch c.in-Some.ensures.items in
    let same = c.append.new.row.ok.0 in
    omega arith

pub loop-pending-smaller-in-End : goal.loop-pending-smaller-in-End
loop-pending-smaller-in-End c =
    let fewer = fewer_left (vec_items c.append.new.row) (lowest_of c.append.new.noted) c.in_ok-stage.ensures in
    let long = length-set (vec_items c.append.new.row) c.in-Some.branch.node c.resolved.result in
    omega arith

pub loop-pending-preserved-in-End : goal.loop-pending-preserved-in-End
loop-pending-preserved-in-End c =
    goes_back c.loop-pending.invariant c.step_at-step.result c.step_at-step.ensures (vec_items c.append.new.row) (lowest_of c.append.new.noted) c.in_ok-stage.ensures
    (vec_items c.pop.new.self) c.in-Some.branch c.resolved.result c.len-no_node.result
    c.in-End.is c.in-Some.ensures.items (c.len-no_node.ensures ∙ c.append.new.row.ok.0) c.resolved.ensures

pub loop-pending-smaller-in-Act : goal.loop-pending-smaller-in-Act
loop-pending-smaller-in-Act c = fewer_left (vec_items c.append.new.row) (lowest_of c.append.new.noted) c.in_ok-stage.ensures

pub loop-pending-preserved-in-Act : goal.loop-pending-preserved-in-Act
loop-pending-preserved-in-Act c =
    acts c.loop-pending.invariant c.step_at-step.result c.step_at-step.ensures (vec_items c.append.new.row) (lowest_of c.append.new.noted) c.in_ok-stage.ensures
    c.in-Act.action c.in-Act.next c.behind_change-point.result c.in-Act.is c.behind_change-point.ensures

pub loop-pending-smaller-in-Apply : goal.loop-pending-smaller-in-Apply
loop-pending-smaller-in-Apply c = fewer_left (vec_items c.append.new.row) (lowest_of c.append.new.noted) c.in_ok-stage.ensures

pub loop-pending-preserved-in-Apply : goal.loop-pending-preserved-in-Apply
loop-pending-preserved-in-Apply c =
    applies c.loop-pending.invariant c.step_at-step.result c.step_at-step.ensures (vec_items c.append.new.row) (lowest_of c.append.new.noted) c.in_ok-stage.ensures
    c.in-Apply.table c.in-Apply.next c.behind_change-point-in-Apply.result c.in-Apply.is c.behind_change-point-in-Apply.ensures

pub overflow_sub-node : goal.overflow_sub-node
overflow_sub-node c =
    let long = one_longer (vec_items c.append.new.row) (lowest_of c.append.new.noted) c.in_ok-stage.ensures in
    let same = c.append.new.row.ok.0 in
    omega (arith, c.len-node.ensures)

pub loop-pending-smaller : goal.loop-pending-smaller
loop-pending-smaller c = fewer_left (vec_items c.append.new.row) (lowest_of c.append.new.noted) c.in_ok-stage.ensures

pub loop-pending-preserved : goal.loop-pending-preserved
loop-pending-preserved c =
    let b : Branch = record { node = c.len-node.result - 1; test = c.in-If.test; no = c.behind_branch-no.result } in
    let long = one_longer (vec_items c.append.new.row) (lowest_of c.append.new.noted) c.in_ok-stage.ensures in
    let same = c.append.new.row.ok.0 in
    let index : b.node ≡ length (vec_items c.loop-pending.row) = omega (arith, c.len-node.ensures) in
    branches c.loop-pending.invariant c.step_at-step.result c.step_at-step.ensures (vec_items c.append.new.row) (lowest_of c.append.new.noted) c.in_ok-stage.ensures
    c.in-If.yes c.in-If.no c.behind_branch-point.result b (vec_items c.push.new.self)
    c.in-If.is index c.behind_branch-no.ensures c.behind_branch-point.ensures c.in_ok-push-in-If.ensures.items
