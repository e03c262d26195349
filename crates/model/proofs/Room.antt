-- With limits a node takes the first stage with room, and there always is one.
use Rattle.std.proofs.Common.{◌≡◌, ℕ, zero, suc, ◌+◌, ◌-◌, ◌<◌, ◌≤◌, Bool, true, false, cond, not, ◌&&◌, eqb, ltb, List, [], ◌∷◌, sym, refl, ap, subst, ⊎_elim, le_refl, arith}
use native.Mathlib.Nat.{le-max_left, le-max_right}
use Rattle.std.proofs.lemmas.Bool.{cond_both, cond-true, ne_eqb, lt-ltb, ltb-true, and_parts, and_from, true≢false, cases_eq}
use Rattle.model.specs.Node.{Node, halts, looks}
use Rattle.model.specs.Placement.{nodes_on, tables_on, most_nodes, most_tables, has_room, beyond, room_among, limited}
use Rattle.model.specs.Promises.{FirstRoom}
use Rattle.model.proofs.Rows.{node_here, table_here}

-- what room means
pub room_parts : (table : Bool) (placed : List Node) (s : ℕ) → has_room table placed s ≡ true → (nodes_on s placed < most_nodes) × (table ≡ true → tables_on s placed < most_tables)
room_parts true placed s h =
    let a = and_parts (ltb (nodes_on s placed) most_nodes) (ltb (tables_on s placed) most_tables) h in
    (ltb-true _ _ a.0, λ e. ltb-true _ _ a.1)
room_parts false placed s h =
    let a = and_parts (ltb (nodes_on s placed) most_nodes) true h in
    (ltb-true _ _ a.0, λ e. absurd (true≢false (sym e)))

pub room_from : (table : Bool) (placed : List Node) (s : ℕ) → nodes_on s placed < most_nodes → (table ≡ true → tables_on s placed < most_tables) → has_room table placed s ≡ true
room_from true placed s a b = and_from _ _ (lt-ltb _ _ a) (lt-ltb _ _ (b refl))
room_from false placed s a b = and_from _ _ (lt-ltb _ _ a) refl

-- past the highest stage in use there is nothing
pub nothing_beyond : (s : ℕ) (placed : List Node) → beyond placed ≤ s → (nodes_on s placed ≡ 0) × (tables_on s placed ≡ 0)
unfolding beyond nodes_on tables_on
nothing_beyond s [] h = (refl, refl)
nothing_beyond s (n ∷ ns) h =
    let l = le-max_left (suc n.stage) (beyond ns) in
    let m = le-max_right (suc n.stage) (beyond ns) in
    let r = nothing_beyond s ns (omega arith) in
    let e : eqb n.stage s ≡ false = ne_eqb n.stage s (λ (q : n.stage ≡ s). omega arith) in
    let a : node_here s n ≡ 0 = ap {B = ℕ} (λ (z : Bool). cond (z && not (halts n.does)) 1 0) e in
    let b : table_here s n ≡ 0 = ap {B = ℕ} (λ (z : Bool). cond (z && looks n.does) 1 0) e in
    (omega (arith, r.0), omega (arith, r.1))

among_not_before : (more : ℕ) (table : Bool) (placed : List Node) (s : ℕ) → s ≤ room_among more table placed s
unfolding room_among
among_not_before zero table placed s = le_refl s
among_not_before (suc more) table placed s =
    let h = among_not_before more table placed (suc s) in
    cond_both (has_room table placed s) s (room_among more table placed (suc s)) (λ z. s ≤ z) (λ e. le_refl s) (λ e. omega arith)

among_room : (more : ℕ) (table : Bool) (placed : List Node) (s : ℕ) → beyond placed ≤ s + more → has_room table placed (room_among more table placed s) ≡ true
unfolding room_among
among_room zero table placed s h =
    let r = nothing_beyond s placed (omega arith) in
    room_from table placed s (omega (arith, r.0)) (λ e. omega (arith, r.1))
among_room (suc more) table placed s h =
    cond_both (has_room table placed s) s (room_among more table placed (suc s)) (λ z. has_room table placed z ≡ true) (λ e. e) (λ e. among_room more table placed (suc s) (omega arith))

among_first : (more : ℕ) (table : Bool) (placed : List Node) (s : ℕ) (t : ℕ) → s ≤ t → t < room_among more table placed s → has_room table placed t ≡ false
unfolding room_among
among_first zero table placed s t a = λ b. absurd (omega arith)
among_first (suc more) table placed s t a =
    cond_both (has_room table placed s) s (room_among more table placed (suc s)) (λ z. t < z → has_room table placed t ≡ false)
    (λ e (b : t < s). absurd (omega arith))
    (λ e (b : t < room_among more table placed (suc s)).
    ⊎_elim (λ (q : s ≡ t). subst (λ (z : ℕ). has_room table placed z ≡ false) q e)
    (λ (q : s ≡ t → ⊥). among_first more table placed (suc s) t (omega arith) b) (cases_eq s t))

pub first_room : (table : Bool) (placed : List Node) (from : ℕ) → FirstRoom table placed from
first_room table placed from = record {
  not_before = among_not_before (beyond placed - from) table placed from;
  room = among_room (beyond placed - from) table placed from (omega arith);
  first = among_first (beyond placed - from) table placed from;
}

-- a stage that has room is taken
among_stays : (more : ℕ) (table : Bool) (placed : List Node) (s : ℕ) → has_room table placed s ≡ true → room_among more table placed s ≡ s
unfolding room_among
among_stays zero table placed s h = refl
among_stays (suc more) table placed s h = cond-true (has_room table placed s) s (room_among more table placed (suc s)) h

pub limited_stays : (table : Bool) (placed : List Node) (s : ℕ) → has_room table placed s ≡ true → limited table placed s ≡ s
limited_stays table placed s h = among_stays (beyond placed - s) table placed s h
