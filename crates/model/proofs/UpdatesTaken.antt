-- When an update is refused, and for how long.
use Rattle.std.proofs.Common.{◌≡◌, ℕ, zero, suc, ◌<◌, ◌≤◌, true, false, cond, ltb, List, [], ◌∷◌, ◌++◌, length, get_or, take, sym, refl, ap, ◌∙◌, ⊎_elim, suc-le-suc, zero-le, le_refl, arith}
use Rattle.std.proofs.lemmas.Bool.{ltb-true, lt-ltb, le-ltb, or_cases, or_right, or_left, or_parts, or_from, not-false, not_from_true, not_from_false}
use Rattle.model.specs.Table.{Tables}
use Rattle.model.specs.Version.{Version, edited_all}
use Rattle.model.specs.Stage.{Transit}
use Rattle.model.specs.Pipeline.{Slot, Free, Holds, Arrival, Idle, Comes, Event, Step, Update, counted, older_slot, any_older, takes, run}
use Rattle.model.specs.Meant.{Came, came_before, any_before, taken_now, brought_by, history, steps_in}
use Rattle.model.specs.Promises.{Updates}
use Rattle.model.proofs.Tracking.{agree_run, taken_by_events}

-- a slot of the row that holds a packet of a version before the newest
abbrev OldIn : ℕ → List (Slot ℕ) → Type 0
OldIn newest xs = (i : ℕ) × (u : Transit) × (v : ℕ) × (i < length xs) × (get_or xs i Free ≡ Holds u v) × (v < newest)

old_found : (newest : ℕ) (xs : List (Slot ℕ)) → any_older counted newest xs ≡ true → OldIn newest xs
unfolding any_older
old_found newest [] e = absurd (mathlib.Core.Bool.false≢true e)
old_found newest (Free ∷ xs) e =
    let r = old_found newest xs e in
    (suc r.0, r.1, r.2, suc-le-suc r.3, r.4, r.5)
old_found newest (Holds u v ∷ xs) e =
    ⊎_elim
    (λ (h : ltb v newest ≡ true). (0, u, v, suc-le-suc zero-le, refl, ltb-true v newest h))
    (λ (h : any_older counted newest xs ≡ true). let r = old_found newest xs h in (suc r.0, r.1, r.2, suc-le-suc r.3, r.4, r.5))
    (or_cases (ltb v newest) (any_older counted newest xs) e)

found_old : (newest : ℕ) (xs : List (Slot ℕ)) (i : ℕ) (u : Transit) (v : ℕ) → get_or xs i Free ≡ Holds u v → v < newest → any_older counted newest xs ≡ true
unfolding any_older
found_old newest [] i u v e h = absurd (free≢holds u v e)
  where
    free≢holds : (u : Transit) (v : ℕ) → Free ≡ Holds u v → ⊥
    free≢holds u v e = let z : ◌≡◌ {A = ℕ} 0 1 = cc in omega arith
found_old newest (x ∷ xs) zero u v e h =
    or_left (older_slot counted newest x) (any_older counted newest xs) (ap (older_slot counted newest) e ∙ lt-ltb v newest h)
found_old newest (x ∷ xs) (suc i) u v e h = or_right (older_slot counted newest x) (any_older counted newest xs) (found_old newest xs i u v e h)

-- the newest version never falls
newest_up : (k : ℕ) (t : Tables) (later before : List Event) → (history k t before).newest ≤ (history k t (later ++ before)).newest
unfolding history
newest_up k t [] before = le_refl _
newest_up k t (Step a ∷ es) before = newest_up k t es before
newest_up k t (Update gs ∷ es) before =
    let up = newest_up k t es before in
    elim (taken_now k (history k t (es ++ before))) as (λ z. (history k t before).newest ≤
    (cond z (record { newest = suc (history k t (es ++ before)).newest; steps = (history k t (es ++ before)).steps; tables = edited_all gs (history k t (es ++ before)).tables })
    (history k t (es ++ before))).newest) [ true ↦ omega arith | false ↦ up ]

-- as long as none is taken, what came later has the newest version
later_is_new : (k : ℕ) (t : Tables) (later before : List Event) → (history k t (later ++ before)).newest ≡ (history k t before).newest →
    any_before (history k t before).newest (take (steps_in later) (history k t (later ++ before)).steps) ≡ false
unfolding history steps_in any_before
later_is_new k t [] before e = refl
later_is_new k t (Step a ∷ es) before e =
    or_from (came_before (history k t before).newest (brought_by (history k t (es ++ before)).newest a)) _ (brought a) (later_is_new k t es before e)
  where
    brought : (a : Arrival) → came_before (history k t before).newest (brought_by (history k t (es ++ before)).newest a) ≡ false
    brought Idle = refl
    brought (Comes p) = le-ltb (history k t (es ++ before)).newest (history k t before).newest (omega arith)
later_is_new k t (Update gs ∷ es) before e =
    let up = newest_up k t es before in
    let ih = later_is_new k t es before in
    (elim (taken_now k (history k t (es ++ before))) as (λ z.
    (cond z (record { newest = suc (history k t (es ++ before)).newest; steps = (history k t (es ++ before)).steps; tables = edited_all gs (history k t (es ++ before)).tables })
    (history k t (es ++ before))).newest ≡ (history k t before).newest →
    any_before (history k t before).newest (take (steps_in es) (cond z (record { newest = suc (history k t (es ++ before)).newest; steps = (history k t (es ++ before)).steps; tables = edited_all gs (history k t (es ++ before)).tables })
    (history k t (es ++ before))).steps) ≡ false) [ true ↦ λ bad. absurd (omega arith) | false ↦ ih ]) e

-- none among the latest n, none among the latest k of these
fewer : (newest k n : ℕ) (cs : List Came) → k ≤ n → any_before newest (take n cs) ≡ false → any_before newest (take k cs) ≡ false
unfolding any_before
fewer newest zero n cs h e = refl
fewer newest (suc k) zero cs h e = absurd (omega arith)
fewer newest (suc k) (suc n) [] h e = refl
fewer newest (suc k) (suc n) (c ∷ cs) h e =
    let parts = or_parts (came_before newest c) (any_before newest (take n cs)) e in
    or_from (came_before newest c) (any_before newest (take k cs)) parts.0 (fewer newest k n cs (omega arith) parts.1)

taken_soon : (n : ℕ) (v : Version) (later before : List Event) → (run counted (suc n) v (later ++ before)).newest ≡ (run counted (suc n) v before).newest → suc n ≤ steps_in later →
    takes counted (run counted (suc n) v (later ++ before)) ≡ true
taken_soon n v later before e h =
    let k = suc n in
    let t = v.tables in
    let same : (history (suc n) v.tables (later ++ before)).newest ≡ (history (suc n) v.tables before).newest =
    sym (agree_run n v (later ++ before)).newest ∙ e ∙ (agree_run n v before).newest in
    taken_by_events n v (later ++ before)
    ∙ not_from_false (any_before (history (suc n) v.tables (later ++ before)).newest (take (suc n) (history (suc n) v.tables (later ++ before)).steps))
    (ap (λ (z : ℕ). any_before z (take (suc n) (history (suc n) v.tables (later ++ before)).steps)) same
    ∙ fewer (history (suc n) v.tables before).newest (suc n) (steps_in later) (history (suc n) v.tables (later ++ before)).steps h
    (later_is_new (suc n) v.tables later before same))

pub updates : Updates
updates zero v pos = absurd (omega arith)
updates (suc n) v pos = record {
  refused_while = λ es. (
    (λ e. old_found (run counted (suc n) v es).newest (run counted (suc n) v es).slots (not-false (any_older counted (run counted (suc n) v es).newest (run counted (suc n) v es).slots) e)),
    (λ o. not_from_true (any_older counted (run counted (suc n) v es).newest (run counted (suc n) v es).slots)
        (found_old (run counted (suc n) v es).newest (run counted (suc n) v es).slots o.0 o.1 o.2 o.4 o.5)),
  );
  by_events = taken_by_events n v;
  soon = taken_soon n v;
}
