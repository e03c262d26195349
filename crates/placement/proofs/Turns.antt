-- One turn of placement: what stands of the row so far stands of it with the node of a step appended.
use Rattle.std.proofs.Common.{◌≡◌, ℕ, ◌+◌, ◌<◌, false, List, [], ◌∷◌, ◌++◌, length, set, sym, ap, ◌∙◌, ap₂, arith}
use Rattle.model.specs.Node as node
use Rattle.model.specs.Statements.{Statement, paths_at, program_of}
use Rattle.model.specs.Stopping.{Refused, Lowest, None, verdict, placement}
use Rattle.program.specs.declared.action.Action.{Action}
use Rattle.program.specs.Stands.{TableNo}
use Rattle.program.specs.declared.node.Node.{Node}
use Rattle.program.specs.Stands.{test_of, node_of, nodes_of}
use Rattle.placement.specs.declared.Fault.{Fault}
use Rattle.placement.specs.declared.Fault.TheVariants.{NoRoom, NoMemory}
use Rattle.placement.specs.declared.branch.Point.{Point}
use Rattle.placement.specs.declared.branch.Branch.{Branch}
use Rattle.placement.specs.declared.step.Step.{Step}
use Rattle.placement.specs.declared.step.StepKind.TheVariants.{End, Act, Apply, If}
use Rattle.placement.specs.Faults.{Refuses, TooMany}
use Rattle.placement.specs.Points.{point, behind_change, behind_branch}
use Rattle.placement.specs.Rows.{Appended}
use Rattle.placement.specs.Steps.{paths_of_step}
use Rattle.placement.proofs.Bounds.{Bounds, at_start, goes_within, forks_within, stands_in_row, resumes_within}
use Rattle.placement.proofs.Laying.{comes_to, starts, too_many, goes_on_acting, goes_on_applying, forks, ends, resumes}

-- all is within bounds, and what it comes to is the placement of the whole program
pub record Underway (end : ℕ) (ss : List Statement) (row : List Node) (w : Lowest) (p : Point) (bs : List Branch) : Type 0 where
  pub bounds : Bounds row p bs
  pub comes : comes_to end ss (nodes_of row) w p bs ≡ placement 12 512 (program_of end ss)

pub begun : (end : ℕ) (ss : List Statement) (row : List Node) (bs : List Branch) → row ≡ [] → bs ≡ [] → Underway end ss row None (point 0 0 false) bs
begun end ss row bs e none = record {
  bounds = at_start row (point 0 0 false) bs e (omega arith) none;
  comes = ap₂ (λ (r : List Node) (z : List Branch). comes_to end ss (nodes_of r) None (point 0 0 false) z) e none ∙ starts end ss;
}

module _ {end : ℕ} {ss : List Statement} {row : List Node} {w : Lowest} {p : Point} {bs : List Branch} (h : Underway end ss row w p bs) (step : Step) (at : paths_at end ss p.at ≡ paths_of_step end ss step) where
  -- one node too many is refused with the smallest offset
  pub refuses : (n : ℕ) (fault : Fault) → n ≡ length row → TooMany fault n w step.offset → Refuses fault (placement 12 512 (program_of end ss))
  refuses n (NoRoom o) same (long, is) = sym h.comes ∙ too_many end ss row w p bs step at (omega arith) ∙ ap Refused (sym is)
  refuses n NoMemory same g = tt

  module _ {s : ℕ} (all : List Node) (v : Lowest) (a : Appended row w step p s all v) where
    pub acts : (x : Action) (next : ℕ) (q : Point) → step.kind ≡ Act x next → q ≡ behind_change next s → Underway end ss all v q bs
    acts x next q is e = record {
      bounds = goes_within all v a bs h.bounds q (ap (λ (z : Point). z.stage) e);
      comes = sym (goes_on_acting end ss row w p bs step at s all v a x next q is e) ∙ h.comes;
    }

    pub applies : (t : TableNo) (next : ℕ) (q : Point) → step.kind ≡ Apply t next → q ≡ behind_change next s → Underway end ss all v q bs
    applies t next q is e = record {
      bounds = goes_within all v a bs h.bounds q (ap (λ (z : Point). z.stage) e);
      comes = sym (goes_on_applying end ss row w p bs step at s all v a t next q is e) ∙ h.comes;
    }

    pub branches : (yes-path no-path : ℕ) (q : Point) (b : Branch) (more : List Branch) → step.kind ≡ If b.test yes-path no-path → b.node ≡ length row → b.no ≡ behind_branch p no-path s →
        q ≡ behind_branch p yes-path s → more ≡ bs ++ b ∷ [] → Underway end ss all v q more
    branches yes-path no-path q b more is index on-no on-yes pushed = record {
      bounds = forks_within all v a bs h.bounds q b more (ap (λ (z : Point). z.stage) on-yes) index (ap (λ (z : Point). z.stage) on-no) pushed;
      comes = sym (forks end ss row w p bs step at s all v a yes-path no-path q b more is index on-no on-yes pushed) ∙ h.comes;
    }

    pub is_whole : step.kind ≡ End → bs ≡ [] → verdict (nodes_of all) v ≡ placement 12 512 (program_of end ss)
    is_whole is none = sym (ends end ss row w p bs step at s all v a is none) ∙ h.comes

    pub waits : (left : List Branch) (b : Branch) → bs ≡ left ++ b ∷ [] → b.node < length all
    waits left b split = stands_in_row all v a bs h.bounds left b split

    pub goes_back : (left : List Branch) (b : Branch) (n : Node) (m : ℕ) → step.kind ≡ End → bs ≡ left ++ b ∷ [] → m ≡ length all →
        node_of n ≡ node.node b.no.stage (node.Ask (test_of b.test) (b.node + 1) m) → Underway end ss (set all b.node n) v b.no left
    goes_back left b n m is split long is-node = record {
      bounds = resumes_within all v a bs h.bounds left b split n (ap (λ (z : node.Node). z.stage) is-node);
      comes = sym (resumes end ss row w p bs step at s all v a left b n m is split long is-node) ∙ h.comes;
    }
