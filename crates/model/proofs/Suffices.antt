-- Without limits one stage more suffices than there are tables behind a change on a path.
use Rattle.std.proofs.Common.{◌≡◌, ℕ, suc, ◌+◌, ◌≤◌, Bool, true, false, cond, List, [], refl, ap, arith}
use native.Mathlib.Nat.{le-max_left, le-max_right}
use Rattle.std.proofs.lemmas.Bool.{eq-eqb, lt-ltb}
use Rattle.model.specs.Paths.{Paths, Stop, Apply, Branch, Act}
use Rattle.model.specs.Node.{Node, Halt, node}
use Rattle.model.specs.Placement.{unlimited, table_from, still_changed, laid_from, plain_rule, within, tables_behind}
use Rattle.model.proofs.Rows.{within_one_more}

-- a node that stays on its stage finds it as changed as it was
still_same : (b : Bool) (s : ℕ) → still_changed b s s ≡ b
still_same true s = eq-eqb s s refl
still_same false s = refl

from_counts : (s : ℕ) (b : Bool) → table_from s b ≡ s + cond b 1 0
from_counts s true = omega arith
from_counts s false = omega arith

-- m is the last stage
suffices_from : (x : Paths) (m : ℕ) (placed : List Node) (s : ℕ) (b : Bool) → within (suc m) placed ≡ true → s + tables_behind b x ≤ m → within (suc m) (laid_from unlimited placed s b x) ≡ true
unfolding laid_from tables_behind
suffices_from (Stop o) m placed s b w h = within_one_more (suc m) placed (node 0 Halt) w refl
suffices_from (Apply o n x) m placed s b w h =
    let e = from_counts s b in
    suffices_from x m _ (table_from s b) true (within_one_more (suc m) placed _ w (lt-ltb _ _ (omega arith))) (omega arith)
suffices_from (Branch o c x y) m placed s b w h =
    let b2 = still_changed b s s in
    let l = le-max_left (tables_behind b x) (tables_behind b y) in
    let r = le-max_right (tables_behind b x) (tables_behind b y) in
    let ex = ap (λ (z : Bool). tables_behind z x) (still_same b s) in
    let ey = ap (λ (z : Bool). tables_behind z y) (still_same b s) in
    suffices_from y m _ s b2 (suffices_from x m _ s b2 (within_one_more (suc m) placed _ w (lt-ltb _ _ (omega arith))) (omega arith)) (omega arith)
suffices_from (Act o a x) m placed s b w h =
    suffices_from x m _ s true (within_one_more (suc m) placed _ w (lt-ltb _ _ (omega arith))) h

pub one_more_suffices : (x : Paths) → within (suc (tables_behind false x)) (plain_rule x) ≡ true
unfolding within
one_more_suffices x = suffices_from x (tables_behind false x) [] 0 false refl (omega arith)
