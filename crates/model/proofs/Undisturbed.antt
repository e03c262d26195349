-- With another packet in the place of one, all others leave as before.
use Rattle.std.proofs.Common.{◌≡◌, ℕ, zero, suc, ◌+◌, ◌<◌, ◌≤◌, cond, List, [], ◌∷◌, ◌++◌, length, drop, sym, refl, ap, ◌∙◌, ap₂, ⊎_elim, arith}
use Rattle.std.proofs.lemmas.List.{append_assoc, length-append, drop-append-le}
use Rattle.std.proofs.lemmas.Bool.{cases_lt}
use Rattle.model.specs.Packet.{Packet, Departure, departs}
use Rattle.model.specs.Declarations.{Declarations}
use Rattle.model.specs.Table.{Tables}
use Rattle.model.specs.Paths.{Paths}
use Rattle.model.specs.Meaning.{means}
use Rattle.model.specs.Node.{Node}
use Rattle.model.specs.Version.{edited_all}
use Rattle.model.specs.Pipeline.{Arrival, Comes, Event, Step, Update, counted, outputs}
use Rattle.model.specs.Meant.{History, brought_by, taken_now, history, meant_for, meant, departs_as, departures, steps_in}
use Rattle.model.specs.Sound.{Layout}
use Rattle.model.specs.Promises.{version, Undisturbed, Alone}
use Rattle.model.proofs.Meant.{as_meant}

-- which updates are taken, and the tables, don't depend on what a packet holds
pub history_same : (k : ℕ) (t : Tables) (later before : List Event) (p q : Packet) →
    history k t (later ++ (Step (Comes p) ∷ before)) ≡ history k t (later ++ (Step (Comes q) ∷ before))
unfolding history
history_same k t [] before p q = refl
history_same k t (Step a ∷ es) before p q =
    ap {B = History} (λ (h : History). record { newest = h.newest; steps = brought_by h.newest a ∷ h.steps; tables = h.tables }) (history_same k t es before p q)
history_same k t (Update gs ∷ es) before p q =
    ap {B = History} (λ (h : History). cond (taken_now k h) (record { newest = suc h.newest; steps = h.steps; tables = edited_all gs h.tables }) h) (history_same k t es before p q)

module _ (d : Declarations) (x : Paths) (k : ℕ) (t : Tables) (before : List Event) (p : Packet) where
  -- what is meant of what comes later
  pub meant_later : List Event → List Arrival
  meant_later [] = []
  meant_later (Step a ∷ es) = meant_for d x (history k t (es ++ (Step (Comes p) ∷ before))).tables a ∷ meant_later es
  meant_later (Update gs ∷ es) = meant_later es

  pub meant_split : (later : List Event) →
      meant d x k t (later ++ (Step (Comes p) ∷ before)) ≡ meant_later later ++ (Comes (means d x (history k t before).tables p) ∷ meant d x k t before)
  unfolding meant meant_later
  meant_split [] = refl
  meant_split (Step a ∷ es) = ap (λ (l : List Arrival). meant_for d x (history k t (es ++ (Step (Comes p) ∷ before))).tables a ∷ l) (meant_split es)
  meant_split (Update gs ∷ es) = meant_split es

  pub later_length : (later : List Event) → length (meant_later later) ≡ steps_in later
  unfolding meant_later steps_in
  later_length [] = refl
  later_length (Step a ∷ es) = ap suc (later_length es)
  later_length (Update gs ∷ es) = later_length es

pub later_same : (d : Declarations) (x : Paths) (k : ℕ) (t : Tables) (before : List Event) (p q : Packet) (later : List Event) → meant_later d x k t before p later ≡ meant_later d x k t before q later
unfolding meant_later
later_same d x k t before p q [] = refl
later_same d x k t before p q (Step a ∷ es) =
    ap₂ (λ (h : History) (l : List Arrival). meant_for d x h.tables a ∷ l) (history_same k t es before p q) (later_same d x k t before p q es)
later_same d x k t before p q (Update gs ∷ es) = later_same d x k t before p q es

-- dropping past a place, it doesn't matter what stands there
pub drop_past : (k : ℕ) (xs : List Arrival) (a b : Arrival) (ys : List Arrival) → length xs < k → drop k (xs ++ (a ∷ ys)) ≡ drop k (xs ++ (b ∷ ys))
drop_past zero xs a b ys h = absurd (omega arith)
drop_past (suc k) [] a b ys h = refl
drop_past (suc k) (x ∷ xs) a b ys h = drop_past k xs a b ys (omega arith)

pub departures_append : (xs ys : List Arrival) → departures (xs ++ ys) ≡ departures xs ++ departures ys
unfolding departures
departures_append [] ys = refl
departures_append (x ∷ xs) ys = ap (λ (l : List Departure). departs_as x ++ l) (departures_append xs ys) ∙ sym (append_assoc (departs_as x) (departures xs) (departures ys))

module _ (d : Declarations) (x : Paths) (k : ℕ) (ns : List Node) (pos : 0 < k) (lays : Layout k ns x) (t : Tables) (later before : List Event) where
  out : Packet → List Departure
  out p = outputs counted k (version d ns t) (later ++ (Step (Comes p) ∷ before))

  -- the place of p among what is meant
  abbrev one : Packet → Arrival
  one p = Comes (means d x (history k t before).tables p)

  out_is : (p : Packet) → out p ≡ departures (drop k (meant_later d x k t before p later ++ (one p ∷ meant d x k t before)))
  unfolding out
  out_is p = (as_meant d x k ns pos lays t (later ++ (Step (Comes p) ∷ before))).all ∙ ap (λ (l : List Arrival). departures (drop k l)) (meant_split d x k t before p later)

  still_under_way : (p q : Packet) → steps_in later < k → out p ≡ out q
  still_under_way p q h =
      let len = later_length d x k t before p later in
      let short : length (meant_later d x k t before p later) < k = omega arith in
      out_is p
      ∙ ap departures (drop_past k (meant_later d x k t before p later) (one p) (one q) (meant d x k t before) short
      ∙ ap (λ (l : List Arrival). drop k (l ++ (one q ∷ meant d x k t before))) (later_same d x k t before p q later))
      ∙ sym (out_is q)

  -- what left behind it, and what left before it
  behind : Packet → List Departure
  behind p = departures (drop k (meant_later d x k t before p later))

  ahead : List Departure
  ahead = departures (meant d x k t before)

  has_left : (p : Packet) → k ≤ steps_in later → out p ≡ behind p ++ (departs (means d x (history k t before).tables p) ++ ahead)
  unfolding behind ahead departures
  has_left p h =
      let len = later_length d x k t before p later in
      let long : k ≤ length (meant_later d x k t before p later) = omega arith in
      out_is p ∙ ap departures (drop-append-le k (meant_later d x k t before p later) (one p ∷ meant d x k t before) long)
      ∙ departures_append (drop k (meant_later d x k t before p later)) (one p ∷ meant d x k t before)

  behind_same : (p q : Packet) → behind p ≡ behind q
  unfolding behind
  behind_same p q = ap (λ (l : List Arrival). departures (drop k l)) (later_same d x k t before p q later)

  same_length : (p q : Packet) → k ≤ steps_in later → length (out p) ≡ length (out q)
  same_length p q h =
      ap length (has_left p h) ∙ length-append (behind p) (departs (means d x (history k t before).tables p) ++ ahead)
      ∙ ap (λ (l : List Departure). length l + suc (length ahead)) (behind_same p q)
      ∙ sym (length-append (behind q) (departs (means d x (history k t before).tables q) ++ ahead)) ∙ sym (ap length (has_left q h))

  pub undisturbed : (p q : Packet) → Undisturbed d x k ns t later before p q
  unfolding out
  undisturbed p q = record {
    as_many = ⊎_elim (λ (h : steps_in later < k). ap length (still_under_way p q h)) (λ (h : k ≤ steps_in later). same_length p q h) (cases_lt (steps_in later) k);
    under_way = still_under_way p q;
    others = λ h. (behind p, ahead, has_left p h, has_left q h ∙ ap (λ (l : List Departure). l ++ (departs (means d x (history k t before).tables q) ++ ahead)) (behind_same q p));
  }

pub alone : Alone
alone d x k ns pos lays t later before p q = undisturbed d x k ns pos lays t later before p q
