-- Placement under way: what it comes to, from the row so far, the offset noted, the point at which the path goes on, and the branches that wait.
use Rattle.std.proofs.Common.{◌≡◌, ℕ, ◌+◌, ◌<◌, ◌≤◌, Bool, true, false, cond, List, [], ◌∷◌, ◌++◌, length, set, sym, refl, ap, ◌∙◌, ap₂, arith}
use Rattle.std.proofs.lemmas.List.{length-map, map-set}
use Rattle.std.proofs.lemmas.Bool.{lt-ltb, le-ltb}
use Rattle.model.specs.Paths.{Paths}
use Rattle.model.specs.Statements.{Statement, paths_at, program_of}
use Rattle.model.specs.Node as node
use Rattle.model.specs.Placement.{limited, table_from, still_changed}
use Rattle.model.specs.Stopping.{Verdict, Refused, Lowest, None, verdict, placement, Progress, Going, Stopped, and_then, ended, offset_of, if_room, noted, stopping}
use Rattle.model.proofs.Stops.{stopping_is_the_rule}
use Rattle.program.specs.declared.action.Action.{Action}
use Rattle.program.specs.declared.action.Test.{Test}
use Rattle.program.specs.Stands.{TableNo}
use Rattle.program.specs.declared.node.Node.{Node}
use Rattle.program.specs.Stands.{test_of, action_of, node_of, nodes_of}
use Rattle.placement.specs.declared.branch.Point.{Point}
use Rattle.placement.specs.declared.branch.Branch.{Branch}
use Rattle.placement.specs.declared.step.Step.{Step}
use Rattle.placement.specs.declared.step.StepKind.{StepKind}
use Rattle.placement.specs.declared.step.StepKind.TheVariants.{End, Act, Apply, If}
use Rattle.placement.specs.Points.{point, behind_change, behind_branch}
use Rattle.placement.specs.Rows.{Appended, node_for}
use Rattle.placement.specs.Steps.{paths_of_kind, paths_of_step}

-- what becomes of a row and of the offset noted
abbrev Then : Type 0
Then = List node.Node → Lowest → Verdict

abbrev finish : Progress → Then → Verdict
finish (Going row w) go = go row w
finish (Stopped o) go = Refused o

finish_ended : (p : Progress) → finish p verdict ≡ ended p
finish_ended (Going row w) = refl
finish_ended (Stopped o) = refl

finish_then : (p : Progress) (f : List node.Node → Lowest → Progress) (go : Then) → finish (and_then p f) go ≡ finish p (λ row w. finish (f row w) go)
finish_then (Going row w) f go = refl
finish_then (Stopped o) f go = refl

fits : (row : List node.Node) (w : Lowest) (o : ℕ) (p : Progress) (go : Then) → length row < 512 → finish (if_room 512 row w o p) go ≡ finish p go
fits row w o p go h = ap (λ (z : Bool). finish (cond z p (Stopped (offset_of w o))) go) (lt-ltb (length row) 512 h)

full : (row : List node.Node) (w : Lowest) (o : ℕ) (p : Progress) (go : Then) → 512 ≤ length row → finish (if_room 512 row w o p) go ≡ Refused (offset_of w o)
full row w o p go h = ap (λ (z : Bool). finish (cond z p (Stopped (offset_of w o))) go) (le-ltb (length row) 512 h)

-- paths are laid behind a row, and then comes go
abbrev lay : List node.Node → Lowest → ℕ → Bool → Paths → Then → Verdict
lay row w s changed x go = finish (stopping 12 512 row w s changed x) go

abbrev branch : ℕ → Test → Point → Branch
branch i c p = record { node = i; test = c; no = p }

module _ (end : ℕ) (ss : List Statement) where
  -- the no path of a branch, once its yes path is laid, and then go
  abbrev resume : Then → Branch → Then
  resume go b row w =
      lay (set row b.node (node.node b.no.stage (node.Ask (test_of b.test) (b.node + 1) (length row)))) w b.no.stage b.no.changed (paths_at end ss b.no.at) go

  -- the branches that wait, the last of them first
  abbrev resumed : Then → List Branch → Then
  resumed go [] = go
  resumed go (b ∷ bs) = resumed (resume go b) bs

  resumed_push : (bs : List Branch) (b : Branch) (go : Then) → resumed go (bs ++ b ∷ []) ≡ resume (resumed go bs) b
  resumed_push [] b go = refl
  resumed_push (x ∷ bs) b go = resumed_push bs b (resume go x)

  -- what placement comes to
  unfoldable pub comes_to : List node.Node → Lowest → Point → List Branch → Verdict
  comes_to row w p bs = lay row w p.stage p.changed (paths_at end ss p.at) (resumed verdict bs)

  -- what it comes to once the node of a step at p stands on stage s behind n others
  abbrev comes_to_behind : ℕ → List node.Node → Lowest → ℕ → Point → List Branch → StepKind → Verdict
  comes_to_behind n row w s p bs End = resumed verdict bs row w
  comes_to_behind n row w s p bs (Act a next) = comes_to row w (behind_change next s) bs
  comes_to_behind n row w s p bs (Apply t next) = comes_to row w (behind_change next s) bs
  comes_to_behind n row w s p bs (If c yes-path no-path) = comes_to row w (behind_branch p yes-path s) (bs ++ branch n c (behind_branch p no-path s) ∷ [])

  pub starts : comes_to [] None (point 0 0 false) [] ≡ placement 12 512 (program_of end ss)
  unfolding comes_to
  starts = finish_ended (stopping 12 512 [] None 0 false (program_of end ss)) ∙ (stopping_is_the_rule 12 512 (program_of end ss)).same

  module _ (row : List Node) (w : Lowest) (p : Point) (bs : List Branch) where
    one_more : (o : ℕ) (k : StepKind) → length (nodes_of row) < 512 →
        lay (nodes_of row) w p.stage p.changed (paths_of_kind end ss o k) (resumed verdict bs) ≡
        comes_to_behind (length row) (nodes_of row ++ node_for row p.stage p.changed k ∷ []) (noted 12 w (node_for row p.stage p.changed k) o) (node_for row p.stage p.changed k).stage p bs k
    unfolding comes_to stopping
    one_more o End h = fits (nodes_of row) w o _ (resumed verdict bs) h
    one_more o (Act a next) h =
        let st = limited false (nodes_of row) p.stage in
        let act = λ (l : ℕ). node.node st (node.Do (action_of a) (l + 1)) in
        fits (nodes_of row) w o _ (resumed verdict bs) h ∙
        ap (λ (l : ℕ). lay (nodes_of row ++ act l ∷ []) (noted 12 w (act l) o) st true (paths_at end ss next) (resumed verdict bs)) (length-map row node_of)
    one_more o (Apply t next) h =
        let st = limited true (nodes_of row) (table_from p.stage p.changed) in
        let look = λ (l : ℕ). node.node st (node.Look t.at (l + 1)) in
        fits (nodes_of row) w o _ (resumed verdict bs) h ∙
        ap (λ (l : ℕ). lay (nodes_of row ++ look l ∷ []) (noted 12 w (look l) o) st true (paths_at end ss next) (resumed verdict bs)) (length-map row node_of)
    one_more o (If c yes-path no-path) h =
        let st = limited false (nodes_of row) p.stage in
        let b = still_changed p.changed p.stage st in
        let ask = λ (l j : ℕ). node.node st (node.Ask (test_of c) (l + 1) j) in
        let first = λ (l : ℕ). lay (nodes_of row ++ ask l 0 ∷ []) (noted 12 w (ask l 0) o) st b (paths_at end ss yes-path) in
        let second = λ (l : ℕ) (row2 : List node.Node). stopping 12 512 (set row2 l (ask l (length row2))) in
        let yes-laid = stopping 12 512 (nodes_of row ++ ask (length (nodes_of row)) 0 ∷ []) (noted 12 w (ask (length (nodes_of row)) 0) o) st b (paths_at end ss yes-path) in
        let no-laid = λ (row2 : List node.Node) (v : Lowest). second (length (nodes_of row)) row2 v st b (paths_at end ss no-path) in
        fits (nodes_of row) w o (and_then yes-laid no-laid) (resumed verdict bs) h ∙
        finish_then yes-laid no-laid (resumed verdict bs) ∙
        ap (λ (l : ℕ). first l (λ row2 v. finish (second l row2 v st b (paths_at end ss no-path)) (resumed verdict bs))) (length-map row node_of) ∙
        ap (first (length row)) (sym (resumed_push bs (branch (length row) c (behind_branch p no-path st)) verdict))

    none_more : (o : ℕ) (k : StepKind) → 512 ≤ length (nodes_of row) → lay (nodes_of row) w p.stage p.changed (paths_of_kind end ss o k) (resumed verdict bs) ≡ Refused (offset_of w o)
    unfolding stopping
    none_more o End h = full (nodes_of row) w o _ (resumed verdict bs) h
    none_more o (Act a next) h = full (nodes_of row) w o _ (resumed verdict bs) h
    none_more o (Apply t next) h = full (nodes_of row) w o _ (resumed verdict bs) h
    none_more o (If c yes-path no-path) h = full (nodes_of row) w o _ (resumed verdict bs) h

    module _ (step : Step) (at : paths_at end ss p.at ≡ paths_of_step end ss step) where
      -- the node of the step is one too many
      pub too_many : 512 ≤ length row → comes_to (nodes_of row) w p bs ≡ Refused (offset_of w step.offset)
      unfolding comes_to
      too_many h =
          let n = length-map row node_of in
          ap (λ (x : Paths). lay (nodes_of row) w p.stage p.changed x (resumed verdict bs)) at ∙ none_more step.offset step.kind (omega arith)

      -- the node of the step is appended
      module _ (s : ℕ) (all : List Node) (v : Lowest) (a : Appended row w step p s all v) where
        turns : (k : StepKind) → step.kind ≡ k → comes_to (nodes_of row) w p bs ≡ comes_to_behind (length row) (nodes_of all) v s p bs k
        unfolding comes_to
        turns k is =
            let n = length-map row node_of in
            ap (λ (x : Paths). lay (nodes_of row) w p.stage p.changed x (resumed verdict bs)) at ∙
            one_more step.offset step.kind (omega (arith, a.fits)) ∙
            ap₂ (λ (r : List node.Node) (u : Lowest). comes_to_behind (length row) r u (node_for row p.stage p.changed step.kind).stage p bs step.kind) (sym a.is_row) (sym a.is_noted) ∙
            ap₂ (λ (z : ℕ) (x : StepKind). comes_to_behind (length row) (nodes_of all) v z p bs x) (sym a.is_stage) is

        -- an action or a table, and the path goes on
        pub goes_on_acting : (x : Action) (next : ℕ) (q : Point) → step.kind ≡ Act x next → q ≡ behind_change next s → comes_to (nodes_of row) w p bs ≡ comes_to (nodes_of all) v q bs
        goes_on_acting x next q is e = turns (Act x next) is ∙ ap (λ (z : Point). comes_to (nodes_of all) v z bs) (sym e)

        pub goes_on_applying : (t : TableNo) (next : ℕ) (q : Point) → step.kind ≡ Apply t next → q ≡ behind_change next s → comes_to (nodes_of row) w p bs ≡ comes_to (nodes_of all) v q bs
        goes_on_applying t next q is e = turns (Apply t next) is ∙ ap (λ (z : Point). comes_to (nodes_of all) v z bs) (sym e)

        -- a branch, which waits while its yes path is laid
        pub forks : (yes-path no-path : ℕ) (q : Point) (b : Branch) (more : List Branch) → step.kind ≡ If b.test yes-path no-path → b.node ≡ length row → b.no ≡ behind_branch p no-path s →
            q ≡ behind_branch p yes-path s → more ≡ bs ++ b ∷ [] → comes_to (nodes_of row) w p bs ≡ comes_to (nodes_of all) v q more
        forks yes-path no-path q b more is index on-no on-yes pushed =
            turns (If b.test yes-path no-path) is ∙
            ap₂ (λ (i : ℕ) (z : Point). comes_to (nodes_of all) v (behind_branch p yes-path s) (bs ++ branch i b.test z ∷ [])) (sym index) (sym on-no) ∙
            ap₂ (comes_to (nodes_of all) v) (sym on-yes) (sym pushed)

        -- the end of the last path
        pub ends : step.kind ≡ End → bs ≡ [] → comes_to (nodes_of row) w p bs ≡ verdict (nodes_of all) v
        ends is none = turns End is ∙ ap (λ (z : List Branch). resumed verdict z (nodes_of all) v) none

        -- the end of another path: the last branch that waits goes on with its no path
        pub resumes : (left : List Branch) (b : Branch) (n : Node) (m : ℕ) → step.kind ≡ End → bs ≡ left ++ b ∷ [] → m ≡ length all →
            node_of n ≡ node.node b.no.stage (node.Ask (test_of b.test) (b.node + 1) m) → comes_to (nodes_of row) w p bs ≡ comes_to (nodes_of (set all b.node n)) v b.no left
        unfolding comes_to
        resumes left b n m is split long is-node =
            let ask = λ (l : ℕ). node.node b.no.stage (node.Ask (test_of b.test) (b.node + 1) l) in
            let go = λ (z : node.Node). comes_to (set (nodes_of all) b.node z) v b.no left in
            turns End is ∙
            ap (λ (f : Then). f (nodes_of all) v) (ap (resumed verdict) split ∙ resumed_push left b verdict) ∙
            ap (λ (l : ℕ). go (ask l)) (length-map all node_of ∙ sym long) ∙
            ap go (sym is-node) ∙
            ap (λ (z : List node.Node). comes_to z v b.no left) (sym (map-set node_of all b.node n))
