-- What is in the slots follows from the events alone: the versions of the packets under way are those that the k latest steps brought. So it does whether an update is taken.
use Rattle.std.proofs.Common.{◌≡◌, ℕ, zero, suc, ◌+◌, Bool, true, false, cond, not, ◌||◌, List, [], ◌∷◌, length, take, refl, ap, ◌∙◌, ap₂}
use Rattle.model.specs.Version.{Version, Edit, edited_all}
use Rattle.model.specs.Pipeline.{Slot, Free, Holds, Pipeline, Arrival, Idle, Comes, Event, Step, Update, counted, worked_slot, worked, but_last, arriving, advance, older_slot, any_older, takes, renewed, free, run}
use Rattle.model.specs.Meant.{Came, Nobody, With, History, came_before, any_before, taken_now, brought_by, history}
use Rattle.model.proofs.Slots.{free_length, advance_length}

abbrev pub came : Slot ℕ → Came
came Free = Nobody
came (Holds u v) = With v

-- the slots hold what the latest steps brought; before the first step nothing came
abbrev pub Tracks : List (Slot ℕ) → List Came → Type 0
Tracks [] cs = Unit {0}
Tracks (x ∷ xs) [] = (came x ≡ Nobody) × Tracks xs []
Tracks (x ∷ xs) (c ∷ cs) = (came x ≡ c) × Tracks xs cs

came_worked : (vs : ℕ → Version) (s : ℕ) (x : Slot ℕ) → came (worked_slot vs s x) ≡ came x
came_worked vs s Free = refl
came_worked vs s (Holds u v) = refl

tracks_worked : (vs : ℕ → Version) (s : ℕ) (xs : List (Slot ℕ)) (cs : List Came) → Tracks xs cs → Tracks (worked vs s xs) cs
unfolding worked
tracks_worked vs s [] cs h = tt
tracks_worked vs s (x ∷ xs) [] h = (came_worked vs s x ∙ h.0, tracks_worked vs (s + 1) xs [] h.1)
tracks_worked vs s (x ∷ xs) (c ∷ cs) h = (came_worked vs s x ∙ h.0, tracks_worked vs (s + 1) xs cs h.1)

tracks_but_last : (xs : List (Slot ℕ)) (cs : List Came) → Tracks xs cs → Tracks (but_last xs) cs
unfolding but_last
tracks_but_last [] cs h = tt
tracks_but_last (x ∷ []) cs h = tt
tracks_but_last (x ∷ (y ∷ xs)) [] h = (h.0, tracks_but_last (y ∷ xs) [] h.1)
tracks_but_last (x ∷ (y ∷ xs)) (c ∷ cs) h = (h.0, tracks_but_last (y ∷ xs) cs h.1)

tracks_free : (k : ℕ) → Tracks (free k) []
unfolding free
tracks_free zero = tt
tracks_free (suc k) = (refl, tracks_free k)

came_arriving : (v : ℕ) (a : Arrival) → came (arriving v a) ≡ brought_by v a
came_arriving v Idle = refl
came_arriving v (Comes p) = refl

older_came : (newest : ℕ) (x : Slot ℕ) → older_slot counted newest x ≡ came_before newest (came x)
older_came newest Free = refl
older_came newest (Holds u v) = refl

tracks_older : (newest : ℕ) (xs : List (Slot ℕ)) (cs : List Came) → Tracks xs cs → any_older counted newest xs ≡ any_before newest (take (length xs) cs)
unfolding any_older any_before
tracks_older newest [] cs h = refl
tracks_older newest (x ∷ xs) [] h =
    let none = tracks_none newest xs h.1 in
    rw (older_came newest x, h.0) none
  where
    tracks_none : (newest : ℕ) (xs : List (Slot ℕ)) → Tracks xs [] → any_older counted newest xs ≡ false
    tracks_none newest [] h = refl
    tracks_none newest (x ∷ xs) h = rw (older_came newest x, h.0) (tracks_none newest xs h.1)
tracks_older newest (x ∷ xs) (c ∷ cs) h =
    ap₂ (λ (a b : Bool). a || b) (older_came newest x ∙ ap (came_before newest) h.0) (tracks_older newest xs cs h.1)

-- the pipeline and the events agree
pub record Agrees (k : ℕ) (c : Pipeline ℕ) (h : History) : Type 0 where
  pub newest : c.newest ≡ h.newest
  pub tracks : Tracks c.slots h.steps
  pub slots : length c.slots ≡ k

pub agree_takes : (k : ℕ) (c : Pipeline ℕ) (h : History) → Agrees k c h → takes counted c ≡ taken_now k h
agree_takes k c h g =
    ap not (tracks_older c.newest c.slots h.steps g.tracks
    ∙ ap₂ (λ (n m : ℕ). any_before n (take m h.steps)) g.newest g.slots)

agree_step : (n : ℕ) (a : Arrival) (c : Pipeline ℕ) (h : History) → Agrees (suc n) c h →
    Agrees (suc n) (advance a c) (record { newest = h.newest; steps = brought_by h.newest a ∷ h.steps; tables = h.tables })
agree_step n a c h g = record {
  newest = g.newest;
  tracks = (
    came_arriving c.newest a ∙ ap (λ (z : ℕ). brought_by z a) g.newest,
    tracks_but_last (worked c.versions 0 c.slots) h.steps (tracks_worked c.versions 0 c.slots h.steps g.tracks),
  );
  slots = advance_length n a c g.slots;
}

agree_update : (k : ℕ) (gs : List Edit) (c : Pipeline ℕ) (h : History) → Agrees k c h →
    Agrees k (cond (takes counted c) (renewed counted gs c) c)
    (cond (taken_now k h) (record { newest = suc h.newest; steps = h.steps; tables = edited_all gs h.tables }) h)
agree_update k gs c h g =
    rw (agree_takes k c h g)
    (elim (taken_now k h) as (λ z. Agrees k (cond z (renewed counted gs c) c) (cond z (record { newest = suc h.newest; steps = h.steps; tables = edited_all gs h.tables }) h)) [
      | true ↦ record { newest = ap suc g.newest; tracks = g.tracks; slots = g.slots }
      | false ↦ g
    ])

pub agree_run : (n : ℕ) (v : Version) (es : List Event) → Agrees (suc n) (run counted (suc n) v es) (history (suc n) v.tables es)
unfolding run history
agree_run n v [] = record { newest = refl; tracks = tracks_free (suc n); slots = free_length ℕ (suc n) }
agree_run n v (Step a ∷ es) = agree_step n a (run counted (suc n) v es) (history (suc n) v.tables es) (agree_run n v es)
agree_run n v (Update gs ∷ es) = agree_update (suc n) gs (run counted (suc n) v es) (history (suc n) v.tables es) (agree_run n v es)

-- whether an update is taken, by the events alone
pub taken_by_events : (n : ℕ) (v : Version) (es : List Event) → takes counted (run counted (suc n) v es) ≡ taken_now (suc n) (history (suc n) v.tables es)
taken_by_events n v es = agree_takes (suc n) (run counted (suc n) v es) (history (suc n) v.tables es) (agree_run n v es)
