-- Every packet leaves after k steps, in order, as meant.
use Rattle.std.proofs.Common.{◌≡◌, ℕ, zero, suc, ◌+◌, ◌-◌, ◌≤◌, true, false, cond, eqb, List, [], ◌∷◌, ◌++◌, length, take, drop, sym, refl, ap, ◌∙◌, subst, ap₂, le_refl, add-one, arith}
use Rattle.std.proofs.lemmas.List.{append-nil}
use Rattle.std.proofs.lemmas.Bool.{eq-eqb, ne_eqb, cond-true, cond-false}
use Rattle.model.specs.Packet.{Departure, departs}
use Rattle.model.specs.Declarations.{Declarations}
use Rattle.model.specs.Table.{Tables}
use Rattle.model.specs.Paths.{Paths}
use Rattle.model.specs.Meaning.{means}
use Rattle.model.specs.Node.{Node}
use Rattle.model.specs.Version.{Version, Edit, edited_all, updated}
use Rattle.model.specs.Pipeline.{Slot, Free, Holds, Pipeline, Arrival, Idle, Comes, Event, Step, Update, counted, worked_slot, worked, last_of, but_last, arriving, advance, departing, leaves, renewed, free, run, outputs}
use Rattle.model.specs.Meant.{history, taken_now, meant_for, meant, departs_as, departures}
use Rattle.model.specs.Sound.{Layout}
use Rattle.model.specs.Promises.{version, AsMeant}
use Rattle.model.proofs.OneStage.{Ready, all_done, stage_work}
use Rattle.model.proofs.Slots.{worked_length}
use Rattle.model.proofs.Tracking.{agree_run, agree_takes}

module _ (k : ℕ) where
  -- a slot of stage s holds what a step brought: nothing, or a packet of which so much is left to do as makes it what is meant
  abbrev Holding : (ℕ → Version) → ℕ → ℕ → Arrival → Slot ℕ → Type 0
  Holding vs newest s Idle Free = Unit {0}
  Holding vs newest s Idle (Holds u v) = ⊥
  Holding vs newest s (Comes goal) Free = ⊥
  Holding vs newest s (Comes goal) (Holds u v) = Ready k (vs v) s goal u × (v ≤ newest)

  -- so do all slots from stage s on; before the first step nothing came
  abbrev Under : (ℕ → Version) → ℕ → ℕ → List (Slot ℕ) → List Arrival → Type 0
  Under vs newest s [] ms = Unit {0}
  Under vs newest s (x ∷ xs) [] = Holding vs newest s Idle x × Under vs newest (s + 1) xs []
  Under vs newest s (x ∷ xs) (m ∷ ms) = Holding vs newest s m x × Under vs newest (s + 1) xs ms

  holding_worked : (vs : ℕ → Version) (newest s : ℕ) (m : Arrival) (x : Slot ℕ) → Holding vs newest s m x → Holding vs newest (s + 1) m (worked_slot vs s x)
  holding_worked vs newest s Idle Free h = tt
  holding_worked vs newest s Idle (Holds u v) h = absurd h
  holding_worked vs newest s (Comes goal) Free h = absurd h
  holding_worked vs newest s (Comes goal) (Holds u v) h =
      let long : length (vs v).nodes ≤ length (vs v).nodes + u.at = omega arith in
      (rw add-one (stage_work k (vs v) s u.packet goal h.0.lays (length (vs v).nodes) u.packet (le_refl s) (λ _. refl) long h.0.same), h.1)

  under_worked : (vs : ℕ → Version) (newest s : ℕ) (xs : List (Slot ℕ)) (ms : List Arrival) → Under vs newest s xs ms → Under vs newest (s + 1) (worked vs s xs) ms
  unfolding worked
  under_worked vs newest s [] ms h = tt
  under_worked vs newest s (x ∷ xs) [] h = (holding_worked vs newest s Idle x h.0, under_worked vs newest (s + 1) xs [] h.1)
  under_worked vs newest s (x ∷ xs) (m ∷ ms) h = (holding_worked vs newest s m x h.0, under_worked vs newest (s + 1) xs ms h.1)

  under_but_last : (vs : ℕ → Version) (newest s : ℕ) (xs : List (Slot ℕ)) (ms : List Arrival) → Under vs newest s xs ms → Under vs newest s (but_last xs) ms
  unfolding but_last
  under_but_last vs newest s [] ms h = tt
  under_but_last vs newest s (x ∷ []) ms h = tt
  under_but_last vs newest s (x ∷ (y ∷ xs)) [] h = (h.0, under_but_last vs newest (s + 1) (y ∷ xs) [] h.1)
  under_but_last vs newest s (x ∷ (y ∷ xs)) (m ∷ ms) h = (h.0, under_but_last vs newest (s + 1) (y ∷ xs) ms h.1)

  under_free : (vs : ℕ → Version) (newest s n : ℕ) → Under vs newest s (free n) []
  unfolding free
  under_free vs newest s zero = tt
  under_free vs newest s (suc n) = (tt, under_free vs newest (s + 1) n)

  -- past the last stage a slot sends what is meant
  holding_leaves : (vs : ℕ → Version) (newest : ℕ) (m : Arrival) (x : Slot ℕ) → Holding vs newest k m x → departing x ≡ departs_as m
  holding_leaves vs newest Idle Free h = refl
  holding_leaves vs newest Idle (Holds u v) h = absurd h
  holding_leaves vs newest (Comes goal) Free h = absurd h
  holding_leaves vs newest (Comes goal) (Holds u v) h = ap departs (all_done h.0)

  last_leaves : (vs : ℕ → Version) (newest s n : ℕ) (xs : List (Slot ℕ)) (ms : List Arrival) → Under vs newest s xs ms → length xs ≡ suc n → s + n ≡ k →
      departing (last_of xs) ≡ departures (take 1 (drop n ms))
  unfolding last_of departures
  last_leaves vs newest s n [] ms h e f = absurd (omega arith)
  last_leaves vs newest s zero (x ∷ []) [] h e f =
      let sk : s ≡ k = omega arith in
      holding_leaves vs newest Idle x (subst (λ (z : ℕ). Holding vs newest z Idle x) sk h.0)
  last_leaves vs newest s zero (x ∷ []) (m ∷ ms) h e f =
      let sk : s ≡ k = omega arith in
      holding_leaves vs newest m x (subst (λ (z : ℕ). Holding vs newest z m x) sk h.0) ∙ sym (append-nil (departs_as m))
  last_leaves vs newest s (suc n) (x ∷ []) ms h e f = absurd (omega arith)
  last_leaves vs newest s zero (x ∷ (y ∷ xs)) ms h e f = absurd (omega arith)
  last_leaves vs newest s (suc n) (x ∷ (y ∷ xs)) [] h e f =
      let len : length (y ∷ xs) ≡ suc n = omega arith in
      let sum : s + 1 + n ≡ k = omega arith in
      last_leaves vs newest (s + 1) n (y ∷ xs) [] h.1 len sum ∙ none n
    where
      none : (n : ℕ) → departures (take 1 (drop {A = Arrival} n [])) ≡ []
      none zero = refl
      none (suc n) = refl
  last_leaves vs newest s (suc n) (x ∷ (y ∷ xs)) (m ∷ ms) h e f =
      let len : length (y ∷ xs) ≡ suc n = omega arith in
      let sum : s + 1 + n ≡ k = omega arith in
      last_leaves vs newest (s + 1) n (y ∷ xs) ms h.1 len sum

  -- a new version behind the newest changes nothing for the packets under way
  holding_renewed : (vs ws : ℕ → Version) (newest s : ℕ) → ((v : ℕ) → v ≤ newest → ws v ≡ vs v) → (m : Arrival) (x : Slot ℕ) → Holding vs newest s m x → Holding ws (suc newest) s m x
  holding_renewed vs ws newest s same Idle Free h = tt
  holding_renewed vs ws newest s same Idle (Holds u v) h = absurd h
  holding_renewed vs ws newest s same (Comes goal) Free h = absurd h
  holding_renewed vs ws newest s same (Comes goal) (Holds u v) h =
      let known : v ≤ newest = h.1 in
      (subst (λ (z : Version). Ready k z s goal u) (sym (same v known)) h.0, omega arith)

  under_renewed : (vs ws : ℕ → Version) (newest s : ℕ) → ((v : ℕ) → v ≤ newest → ws v ≡ vs v) → (xs : List (Slot ℕ)) (ms : List Arrival) →
      Under vs newest s xs ms → Under ws (suc newest) s xs ms
  under_renewed vs ws newest s same [] ms h = tt
  under_renewed vs ws newest s same (x ∷ xs) [] h = (holding_renewed vs ws newest s same Idle x h.0, under_renewed vs ws newest (s + 1) same xs [] h.1)
  under_renewed vs ws newest s same (x ∷ xs) (m ∷ ms) h = (holding_renewed vs ws newest s same m x h.0, under_renewed vs ws newest (s + 1) same xs ms h.1)

-- what is left behind n and one more
departures_split : (n : ℕ) (ms : List Arrival) → departures (drop n ms) ≡ departures (take 1 (drop n ms)) ++ departures (drop (suc n) ms)
unfolding departures
departures_split zero [] = refl
departures_split zero (m ∷ ms) = ap (λ (l : List Departure). l ++ departures ms) (sym (append-nil (departs_as m)))
departures_split (suc n) [] = refl
departures_split (suc n) (m ∷ ms) = departures_split n ms

module _ (d : Declarations) (x : Paths) (n : ℕ) (ns : List Node) (lays : Layout (suc n) ns x) where
  -- the pipeline after events: its newest version has the tables as they stand, and its slots hold what is meant
  record Good (c : Pipeline ℕ) (t : Tables) (ms : List Arrival) : Type 0 where
    now : c.versions c.newest ≡ version d ns t
    under : Under (suc n) c.versions c.newest 0 c.slots ms

  arriving_holds : (vs : ℕ → Version) (newest : ℕ) (t : Tables) (a : Arrival) → vs newest ≡ version d ns t → Holding (suc n) vs newest 0 (meant_for d x t a) (arriving newest a)
  arriving_holds vs newest t Idle e = tt
  arriving_holds vs newest t (Comes p) e =
      (subst (λ (z : Version). Ready (suc n) z 0 (means d x t p) (record { packet = p; at = 0 })) (sym e) (record { paths = x; lays = lays; same = refl }), le_refl newest)

  good_step : (a : Arrival) (c : Pipeline ℕ) (t : Tables) (ms : List Arrival) → Good c t ms → Good (advance a c) t (meant_for d x t a ∷ ms)
  good_step a c t ms g = record {
    now = g.now;
    under = (
      arriving_holds c.versions c.newest t a g.now,
      under_but_last (suc n) c.versions c.newest (0 + 1) (worked c.versions 0 c.slots) ms
          (under_worked (suc n) c.versions c.newest 0 c.slots ms g.under),
    );
  }

  good_update : (gs : List Edit) (c : Pipeline ℕ) (t : Tables) (ms : List Arrival) → Good c t ms → Good (renewed counted gs c) (edited_all gs t) ms
  good_update gs c t ms g = record {
    now = cond-true (eqb (suc c.newest) (suc c.newest)) (updated gs (c.versions c.newest)) (c.versions (suc c.newest)) (eq-eqb (suc c.newest) (suc c.newest) refl)
        ∙ ap (updated gs) g.now;
    under = under_renewed (suc n) c.versions (renewed counted gs c).versions c.newest 0
        (λ v h. cond-false (eqb v (suc c.newest)) (updated gs (c.versions c.newest)) (c.versions v) (ne_eqb v (suc c.newest) (λ (e : v ≡ suc c.newest). omega arith)))
        c.slots ms g.under;
  }

  good_run : (t : Tables) (es : List Event) → Good (run counted (suc n) (version d ns t) es) (history (suc n) t es).tables (meant d x (suc n) t es)
  unfolding run history meant
  good_run t [] = record { now = refl; under = under_free (suc n) (λ _. version d ns t) 0 0 (suc n) }
  good_run t (Step a ∷ es) = good_step a (run counted (suc n) (version d ns t) es) (history (suc n) t es).tables (meant d x (suc n) t es) (good_run t es)
  good_run t (Update gs ∷ es) =
      let c = run counted (suc n) (version d ns t) es in
      let h = history (suc n) t es in
      rw (agree_takes (suc n) (run counted (suc n) (version d ns t) es) (history (suc n) t es) (agree_run n (version d ns t) es))
      (elim (taken_now (suc n) (history (suc n) t es)) as (λ z. Good (cond z (renewed counted gs c) c)
      (cond z (record { newest = suc h.newest; steps = h.steps; tables = edited_all gs h.tables }) h).tables (meant d x (suc n) t es)) [
        | true ↦ good_update gs c h.tables (meant d x (suc n) t es) (good_run t es)
        | false ↦ good_run t es
      ])

  leaves_meant : (t : Tables) (es : List Event) → leaves (run counted (suc n) (version d ns t) es) ≡ departures (take 1 (drop n (meant d x (suc n) t es)))
  leaves_meant t es =
      let c = run counted (suc n) (version d ns t) es in
      let one : 0 + 1 + n ≡ suc n = omega arith in
      last_leaves (suc n) c.versions c.newest (0 + 1) n (worked c.versions 0 c.slots) (meant d x (suc n) t es)
      (under_worked (suc n) c.versions c.newest 0 c.slots (meant d x (suc n) t es) (good_run t es).under)
      (worked_length c.versions 0 c.slots ∙ (agree_run n (version d ns t) es).slots) one

  outputs_meant : (t : Tables) (es : List Event) → outputs counted (suc n) (version d ns t) es ≡ departures (drop (suc n) (meant d x (suc n) t es))
  unfolding outputs meant departures
  outputs_meant t [] = refl
  outputs_meant t (Step a ∷ es) =
      ap₂ (λ (l m : List Departure). l ++ m) (leaves_meant t es) (outputs_meant t es) ∙ sym (departures_split n (meant d x (suc n) t es))
  outputs_meant t (Update gs ∷ es) = outputs_meant t es

pub as_meant : AsMeant
as_meant d x zero ns pos lays t es = absurd (omega arith)
as_meant d x (suc n) ns pos lays t es =
    let less : suc n - 1 ≡ n = omega arith in
    record {
      all = outputs_meant d x n ns lays t es;
      after_k_steps = leaves_meant d x n ns lays t es ∙ ap (λ (z : ℕ). departures (take 1 (drop z (meant d x (suc n) t es)))) (sym less);
    }
