-- The stages of a row: how the search for room goes on, and how high it comes.
use Rattle.std.proofs.Common.{◌≡◌, ℕ, zero, suc, ◌+◌, ◌-◌, ◌<◌, ◌≤◌, Bool, false, List, [], ◌∷◌, ◌++◌, set, sym, ap, ◌∙◌, ⊎_elim, arith}
use Rattle.std.proofs.lemmas.Bool.{cond_both, cond-false, cases_lt, both_ways}
use Rattle.model.specs.Node.{Node}
use Rattle.model.specs.Placement.{has_room, beyond, room_among, limited}
use Rattle.model.proofs.Room.{room_from, nothing_beyond}

-- a stage without room is in use
pub full_below : (table : Bool) (placed : List Node) (s : ℕ) → has_room table placed s ≡ false → s < beyond placed
full_below table placed s h =
    ⊎_elim (λ (q : s < beyond placed). q)
    (λ (q : beyond placed ≤ s).
    let r = nothing_beyond s placed q in
    absurd (both_ways (has_room table placed s) h (room_from table placed s (omega (arith, r.0)) (λ e. omega (arith, r.1)))))
    (cases_lt s (beyond placed))

-- past a stage without room the search goes on at the next
pub limited_next : (table : Bool) (placed : List Node) (s : ℕ) → has_room table placed s ≡ false → limited table placed (s + 1) ≡ limited table placed s
unfolding room_among
limited_next table placed s h =
    let below = full_below table placed s h in
    let e : beyond placed - s ≡ suc (beyond placed - suc s) = omega arith in
    let next : s + 1 ≡ suc s = omega arith in
    ap (limited table placed) next ∙
    sym (ap (λ (z : ℕ). room_among z table placed s) e ∙ cond-false (has_room table placed s) s (room_among (beyond placed - suc s) table placed (suc s)) h)

among_low : (more : ℕ) (table : Bool) (placed : List Node) (s n : ℕ) → s + more ≤ n → room_among more table placed s ≤ n
unfolding room_among
among_low zero table placed s n h = omega arith
among_low (suc more) table placed s n h =
    cond_both (has_room table placed s) s (room_among more table placed (suc s)) (λ z. z ≤ n) (λ e. omega arith) (λ e. among_low more table placed (suc s) n (omega arith))

-- no higher than where it begins, or one past the highest stage in use
pub limited_low : (table : Bool) (placed : List Node) (s n : ℕ) → s ≤ n → beyond placed ≤ n → limited table placed s ≤ n
limited_low table placed s n h g = among_low (beyond placed - s) table placed s n (omega arith)

pub beyond_push : (placed : List Node) (x : Node) (n : ℕ) → beyond placed ≤ n → x.stage < n → beyond (placed ++ x ∷ []) ≤ n
unfolding beyond
beyond_push [] x n h g = omega arith
beyond_push (y ∷ placed) x n h g = let r = beyond_push placed x n (omega arith) g in omega arith

pub beyond_set : (placed : List Node) (i : ℕ) (x : Node) (n : ℕ) → beyond placed ≤ n → x.stage < n → beyond (set placed i x) ≤ n
unfolding beyond
beyond_set [] i x n h g = h
beyond_set (y ∷ placed) zero x n h g = omega arith
beyond_set (y ∷ placed) (suc i) x n h g = let r = beyond_set placed i x n (omega arith) g in omega arith
