-- What stays within bounds while a program is placed: the row's length, its stages, and the branches that wait.
use Rattle.std.proofs.Common.{◌≡◌, ℕ, ◌+◌, ◌-◌, ◌<◌, ◌≤◌, List, [], ◌∷◌, ◌++◌, length, set, sym, ap, ◌∙◌, subst, arith}
use Rattle.std.specs.List.{AllByRecursion as All}
use Rattle.std.proofs.lemmas.List.{length_push, length-map, length-set, map-set}
use Rattle.std.proofs.ByRecursion.{All-push, All-weaker}
use Rattle.model.specs.Placement.{beyond}
use Rattle.model.specs.Stopping.{Lowest}
use Rattle.program.specs.declared.node.Node.{Node}
use Rattle.program.specs.Stands.{node_of, nodes_of}
use Rattle.placement.specs.declared.branch.Point.{Point}
use Rattle.placement.specs.declared.branch.Branch.{Branch}
use Rattle.placement.specs.declared.step.Step.{Step}
use Rattle.placement.specs.Rows.{Appended, Low, node_for}
use Rattle.placement.proofs.Stages.{beyond_push, beyond_set}

-- a branch that waits stands in a row of n nodes
abbrev pub Waits : ℕ → Branch → Type 0
Waits n b = (b.node < n) × (b.no.stage ≤ n)

pub record Bounds (row : List Node) (p : Point) (bs : List Branch) : Type 0 where
  pub short : length row ≤ 512
  pub low : Low row
  pub stage : p.stage ≤ length row
  pub waiting : All (Waits (length row)) bs

pub at_start : (row : List Node) (p : Point) (bs : List Branch) → row ≡ [] → p.stage ≡ 0 → bs ≡ [] → Bounds row p bs
unfolding beyond
at_start row p bs e s none =
    let long : length row ≡ 0 = ap length e in
    let below : beyond (nodes_of row) ≡ 0 = ap (λ (z : List Node). beyond (nodes_of z)) e in
    record {
      short = omega arith;
      low = omega arith;
      stage = omega arith;
      waiting = subst (λ (z : List Branch). All (Waits (length row)) z) (sym none) tt;
    }

all_popped : (P : Branch → Type 0) (bs : List Branch) (x : Branch) → All P (bs ++ x ∷ []) → All P bs × P x
all_popped P [] x h = (tt, h.0)
all_popped P (y ∷ bs) x h = let r = all_popped P bs x h.1 in ((h.0, r.0), r.1)

-- the node of a step is appended
module _ {row : List Node} {w : Lowest} {step : Step} {p : Point} {s : ℕ} (all : List Node) (v : Lowest) (a : Appended row w step p s all v) where
  pub one_longer : length all ≡ length row + 1
  one_longer = sym (length-map all node_of) ∙ ap length a.is_row ∙ length_push (nodes_of row) (node_for row p.stage p.changed step.kind) ∙ ap (λ (z : ℕ). z + 1) (length-map row node_of)

  pub fewer_left : 512 - length all < 512 - length row
  fewer_left = let long = one_longer in omega (arith, a.fits)

  module _ (bs : List Branch) (b : Bounds row p bs) where
    still_waiting : All (Waits (length all)) bs
    still_waiting = let long = one_longer in All-weaker (Waits (length row)) (Waits (length all)) (λ x g. (omega (arith, g.0), omega (arith, g.1))) bs b.waiting

    low_still : Low all
    low_still =
        let long = one_longer in
        let here = node_for row p.stage p.changed step.kind in
        let below = beyond_push (nodes_of row) here (length row + 1 + 1) (omega (arith, b.low)) (omega (arith, a.low, a.is_stage)) in
        let is : beyond (nodes_of all) ≡ beyond (nodes_of row ++ here ∷ []) = ap beyond a.is_row in
        omega arith

    -- the path goes on
    pub goes_within : (q : Point) → q.stage ≡ s → Bounds all q bs
    goes_within q e =
        let long = one_longer in
        record { short = omega (arith, a.fits); low = low_still; stage = omega (arith, a.low); waiting = still_waiting }

    -- one branch more waits
    pub forks_within : (q : Point) (x : Branch) (more : List Branch) → q.stage ≡ s → x.node ≡ length row → x.no.stage ≡ s → more ≡ bs ++ x ∷ [] → Bounds all q more
    forks_within q x more e i f pushed =
        let long = one_longer in
        let g = goes_within q e in
        let waits : Waits (length all) x = (omega arith, omega (arith, a.low)) in
        record { short = g.short; low = g.low; stage = g.stage; waiting = subst (All (Waits (length all))) (sym pushed) (All-push (Waits (length all)) bs x still_waiting waits) }

    -- the last branch that waits
    module _ (left : List Branch) (x : Branch) (split : bs ≡ left ++ x ∷ []) where
      popped : All (Waits (length all)) left × Waits (length all) x
      popped = all_popped (Waits (length all)) left x (subst (All (Waits (length all))) split still_waiting)

      pub stands_in_row : x.node < length all
      stands_in_row = popped.1.0

      -- goes on, and its node is written again
      pub resumes_within : (n : Node) → n.stage ≡ x.no.stage → Bounds (set all x.node n) x.no left
      resumes_within n e =
          let r = popped in
          let appended = one_longer in
          let long = length-set all x.node n in
          let below = beyond_set (nodes_of all) x.node (node_of n) (length all + 1) low_still (omega (arith, r.1.1)) in
          let is : beyond (nodes_of (set all x.node n)) ≡ beyond (set (nodes_of all) x.node (node_of n)) = ap beyond (map-set node_of all x.node n) in
          record {
            short = omega (arith, a.fits);
            low = omega arith;
            stage = omega (arith, r.1.1);
            waiting = subst (λ (l : ℕ). All (Waits l) left) (sym long) r.0;
          }
