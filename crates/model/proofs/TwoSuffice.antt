-- A pipeline that keeps two versions, told apart by one bit, does what the one that keeps all does.
use Rattle.std.proofs.Common.{◌≡◌, ℕ, zero, suc, ◌+◌, ◌≤◌, Bool, true, false, cond, not, ◌||◌, ltb, List, [], ◌∷◌, ◌++◌, map, length, sym, refl, ap, ◌∙◌, ap₂, ⊎_elim, le_refl, arith}
use mathlib.Core.Bool.{beq}
use Rattle.std.proofs.lemmas.Bool.{eq-eqb, ne_eqb, lt-ltb, le-ltb, ltb-false, cases_eq, or_parts, not-true}
use Rattle.model.specs.Packet.{Departure}
use Rattle.model.specs.Version.{Version, Edit, updated}
use Rattle.model.specs.Stage.{on_stage}
use Rattle.model.specs.Pipeline.{Slot, Free, Holds, Pipeline, Arrival, Idle, Comes, Event, Step, Update, counted, one_bit, worked_slot, worked, last_of, but_last, arriving, advance, departing, leaves, older_slot, any_older, takes, renewed, event, free, run, outputs}
use Rattle.model.specs.TwoVersions.{bit, bit_slot, NewestOrBefore, EachSlot}
use Rattle.model.specs.Promises.{TwoVersionsSuffice}

-- the same by bits as by numbers, for the newest version and the one before
abbrev Alike : ℕ → (Bool → Version) → (ℕ → Version) → Type 0
Alike newest bs vs = (v : ℕ) → v ≤ newest → newest ≤ suc v → bs (bit v) ≡ vs v

module _ (newest : ℕ) (bs : Bool → Version) (vs : ℕ → Version) (alike : Alike newest bs vs) where
  slot_worked : (s : ℕ) (x : Slot ℕ) → NewestOrBefore newest x → worked_slot bs s (bit_slot x) ≡ bit_slot (worked_slot vs s x)
  slot_worked s Free h = refl
  slot_worked s (Holds u v) h = ap (λ (z : Version). Holds (on_stage (length z.nodes) z s u.packet u) (bit v)) (alike v h.0 h.1)

  slots_worked : (s : ℕ) (xs : List (Slot ℕ)) → EachSlot (NewestOrBefore newest) xs → worked bs s (map bit_slot xs) ≡ map bit_slot (worked vs s xs)
  unfolding worked
  slots_worked s [] h = refl
  slots_worked s (x ∷ xs) h = ap₂ (λ (y : Slot Bool) (ys : List (Slot Bool)). y ∷ ys) (slot_worked s x h.0) (slots_worked (s + 1) xs h.1)

last_bits : (xs : List (Slot ℕ)) → last_of (map bit_slot xs) ≡ bit_slot (last_of xs)
unfolding last_of
last_bits [] = refl
last_bits (x ∷ []) = refl
last_bits (x ∷ (y ∷ xs)) = last_bits (y ∷ xs)

but_last_bits : (xs : List (Slot ℕ)) → but_last (map bit_slot xs) ≡ map bit_slot (but_last xs)
unfolding but_last
but_last_bits [] = refl
but_last_bits (x ∷ []) = refl
but_last_bits (x ∷ (y ∷ xs)) = ap (λ (ys : List (Slot Bool)). bit_slot x ∷ ys) (but_last_bits (y ∷ xs))

arriving_bits : (v : ℕ) (a : Arrival) → arriving (bit v) a ≡ bit_slot (arriving v a)
arriving_bits v Idle = refl
arriving_bits v (Comes p) = refl

departing_bits : (x : Slot ℕ) → departing (bit_slot x) ≡ departing x
departing_bits Free = refl
departing_bits (Holds u v) = refl

free_bits : (k : ℕ) → free k ≡ map bit_slot (free k)
unfolding free
free_bits zero = refl
free_bits (suc k) = ap (λ (ys : List (Slot Bool)). Free ∷ ys) (free_bits k)

beq_same : (b : Bool) → beq b b ≡ true
beq_same true = refl
beq_same false = refl

beq_not : (b : Bool) → beq (not b) b ≡ false
beq_not true = refl
beq_not false = refl

beq_not_right : (b : Bool) → beq b (not b) ≡ false
beq_not_right true = refl
beq_not_right false = refl

-- the newest of two versions apart is told by the bit
older_bits : (newest v : ℕ) → v ≤ newest → newest ≤ suc v → not (beq (bit newest) (bit v)) ≡ ltb v newest
unfolding bit
older_bits newest v h1 h2 =
    ⊎_elim
    (λ (e : v ≡ newest). ap (λ (z : ℕ). not (beq (bit newest) (bit z))) e ∙ ap not (beq_same (bit newest)) ∙ sym (le-ltb v newest (omega arith)))
    (λ (ne : v ≡ newest → ⊥).
    let next : newest ≡ suc v = omega arith in
    ap (λ (z : ℕ). not (beq (bit z) (bit v))) next ∙ ap not (beq_not (bit v)) ∙ sym (lt-ltb v newest (omega arith)))
    (cases_eq v newest)

slot_older_bits : (newest : ℕ) (x : Slot ℕ) → NewestOrBefore newest x → older_slot one_bit (bit newest) (bit_slot x) ≡ older_slot counted newest x
slot_older_bits newest Free h = refl
slot_older_bits newest (Holds u v) h = older_bits newest v h.0 h.1

any_older_bits : (newest : ℕ) (xs : List (Slot ℕ)) → EachSlot (NewestOrBefore newest) xs → any_older one_bit (bit newest) (map bit_slot xs) ≡ any_older counted newest xs
unfolding any_older
any_older_bits newest [] h = refl
any_older_bits newest (x ∷ xs) h = ap₂ (λ (a b : Bool). a || b) (slot_older_bits newest x h.0) (any_older_bits newest xs h.1)

-- a packet keeps its version
slot_kept : (newest : ℕ) (vs : ℕ → Version) (s : ℕ) (x : Slot ℕ) → NewestOrBefore newest x → NewestOrBefore newest (worked_slot vs s x)
slot_kept newest vs s Free h = tt
slot_kept newest vs s (Holds u v) h = h

slots_kept : (newest : ℕ) (vs : ℕ → Version) (s : ℕ) (xs : List (Slot ℕ)) → EachSlot (NewestOrBefore newest) xs → EachSlot (NewestOrBefore newest) (worked vs s xs)
unfolding worked
slots_kept newest vs s [] h = tt
slots_kept newest vs s (x ∷ xs) h = (slot_kept newest vs s x h.0, slots_kept newest vs (s + 1) xs h.1)

each_but_last : (P : Slot ℕ → Type 0) (xs : List (Slot ℕ)) → EachSlot P xs → EachSlot P (but_last xs)
unfolding but_last
each_but_last P [] h = tt
each_but_last P (x ∷ []) h = tt
each_but_last P (x ∷ (y ∷ xs)) h = (h.0, each_but_last P (y ∷ xs) h.1)

each_free : (newest k : ℕ) → EachSlot (NewestOrBefore newest) (free k)
unfolding free
each_free newest zero = tt
each_free newest (suc k) = (tt, each_free newest k)

arriving_new : (newest : ℕ) (a : Arrival) → NewestOrBefore newest (arriving newest a)
arriving_new newest Idle = tt
arriving_new newest (Comes p) = (le_refl newest, omega arith)

-- where an update is taken, every packet has the newest version, and so the one before the next
each_renewed : (newest : ℕ) (xs : List (Slot ℕ)) → any_older counted newest xs ≡ false → EachSlot (NewestOrBefore newest) xs → EachSlot (NewestOrBefore (suc newest)) xs
unfolding any_older
each_renewed newest [] e h = tt
each_renewed newest (Free ∷ xs) e h = (tt, each_renewed newest xs e h.1)
each_renewed newest (Holds u v ∷ xs) e h =
    let parts = or_parts (ltb v newest) (any_older counted newest xs) e in
    let same : newest ≤ v = ltb-false v newest parts.0 in
    let up : v ≤ newest = h.0.0 in
    ((omega arith, omega arith), each_renewed newest xs parts.1 h.1)

-- the two pipelines hold the same
record Twin (b : Pipeline Bool) (c : Pipeline ℕ) : Type 0 where
  slots : b.slots ≡ map bit_slot c.slots
  newest : b.newest ≡ bit c.newest
  versions : Alike c.newest b.versions c.versions
  two : EachSlot (NewestOrBefore c.newest) c.slots

twin_worked : (b : Pipeline Bool) (c : Pipeline ℕ) → Twin b c → worked b.versions 0 b.slots ≡ map bit_slot (worked c.versions 0 c.slots)
twin_worked b c w = ap (worked b.versions 0) w.slots ∙ slots_worked c.newest b.versions c.versions w.versions 0 c.slots w.two

twin_leaves : (b : Pipeline Bool) (c : Pipeline ℕ) → Twin b c → leaves b ≡ leaves c
twin_leaves b c w =
    ap (λ (l : List (Slot Bool)). departing (last_of l)) (twin_worked b c w) ∙ ap departing (last_bits (worked c.versions 0 c.slots)) ∙ departing_bits (last_of (worked c.versions 0 c.slots))

twin_takes : (b : Pipeline Bool) (c : Pipeline ℕ) → Twin b c → takes one_bit b ≡ takes counted c
twin_takes b c w = ap not (ap₂ (any_older one_bit) w.newest w.slots ∙ any_older_bits c.newest c.slots w.two)

twin_step : (a : Arrival) (b : Pipeline Bool) (c : Pipeline ℕ) → Twin b c → Twin (advance a b) (advance a c)
twin_step a b c w = record {
  slots = ap₂ (λ (y : Slot Bool) (ys : List (Slot Bool)). y ∷ ys)
      (ap (λ (v : Bool). arriving v a) w.newest ∙ arriving_bits c.newest a)
      (ap but_last (twin_worked b c w) ∙ but_last_bits (worked c.versions 0 c.slots));
  newest = w.newest;
  versions = w.versions;
  two = (arriving_new c.newest a, each_but_last (NewestOrBefore c.newest) (worked c.versions 0 c.slots) (slots_kept c.newest c.versions 0 c.slots w.two));
}

module _ (gs : List Edit) (b : Pipeline Bool) (c : Pipeline ℕ) (w : Twin b c) where
  -- the next version, by its bit and by its number; the newest until now is the one before
  renewed_alike : Alike (suc c.newest) (renewed one_bit gs b).versions (renewed counted gs c).versions
  unfolding bit
  renewed_alike v h1 h2 =
      ⊎_elim
      (λ (e : v ≡ suc c.newest).
      let bits : bit v ≡ not b.newest = ap bit e ∙ ap not (sym w.newest) in
      let now = w.versions c.newest (le_refl _) (omega arith) in
      rw (bits, beq_same (not b.newest), eq-eqb v (suc c.newest) e, w.newest) (ap (updated gs) now))
      (λ (ne : v ≡ suc c.newest → ⊥).
      let before : v ≡ c.newest = omega arith in
      let bits : bit v ≡ b.newest = ap bit before ∙ sym w.newest in
      let old = w.versions v (omega arith) (omega arith) in
      rw (bits, beq_not_right b.newest, ne_eqb v (suc c.newest) ne) (ap b.versions (sym bits) ∙ old))
      (cases_eq v (suc c.newest))

  twin_renewed : takes counted c ≡ true → Twin (renewed one_bit gs b) (renewed counted gs c)
  unfolding bit
  twin_renewed e = record {
    slots = w.slots;
    newest = ap not w.newest;
    versions = renewed_alike;
    two = each_renewed c.newest c.slots (not-true (any_older counted c.newest c.slots) e) w.two;
  }

  twin_update : Twin (event one_bit (Update gs) b) (event counted (Update gs) c)
  twin_update =
      rw (twin_takes b c w)
      ((elim (takes counted c) as (λ z. takes counted c ≡ z → Twin (cond z (renewed one_bit gs b) b) (cond z (renewed counted gs c) c)) [
        | true ↦ λ e. twin_renewed e
        | false ↦ λ e. w
      ]) refl)

twin_run : (k : ℕ) (v : Version) (es : List Event) → Twin (run one_bit k v es) (run counted k v es)
unfolding run bit
twin_run k v [] = record { slots = free_bits k; newest = refl; versions = λ _ _ _. refl; two = each_free 0 k }
twin_run k v (Step a ∷ es) = twin_step a (run one_bit k v es) (run counted k v es) (twin_run k v es)
twin_run k v (Update gs ∷ es) = twin_update gs (run one_bit k v es) (run counted k v es) (twin_run k v es)

twin_outputs : (k : ℕ) (v : Version) (es : List Event) → outputs one_bit k v es ≡ outputs counted k v es
unfolding outputs
twin_outputs k v [] = refl
twin_outputs k v (Step a ∷ es) = ap₂ (λ (l m : List Departure). l ++ m) (twin_leaves (run one_bit k v es) (run counted k v es) (twin_run k v es)) (twin_outputs k v es)
twin_outputs k v (Update gs ∷ es) = twin_outputs k v es

pub two_suffice : TwoVersionsSuffice
two_suffice k v es =
    let w = twin_run k v es in
    record {
      newest_or_before = w.two;
      same_output = twin_outputs k v es;
      same_next = twin_leaves (run one_bit k v es) (run counted k v es) w;
      same_answer = twin_takes (run one_bit k v es) (run counted k v es) w;
      same_slots = w.slots;
      same_newest = w.newest;
    }
