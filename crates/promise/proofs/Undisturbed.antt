-- With another packet in the place of one, frame by frame.
use Rattle.std.proofs.Common.{◌≡◌, ℕ, ◌-◌, ◌<◌, ◌≤◌, Bool, List, [], ◌∷◌, ◌++◌, length, take, drop, Ok, Result, sym, refl, ap, ◌∙◌, ap₂, inl, inr, arith}
use Rattle.std.proofs.lemmas.List.{append_assoc, drop-append-le, length-drop, take-append-le, drop_at}
use Rattle.std.proofs.lemmas.Bool.{cases_lt}
use Rattle.model.specs.Packet as model
use Rattle.model.specs.Packet.{Departure, departs}
use Rattle.model.specs.Declarations.{Declarations}
use Rattle.model.specs.Meaning.{means}
use Rattle.model.specs.Version.{empty}
use Rattle.model.specs.Pipeline as pipe
use Rattle.model.specs.Pipeline.{Event, Step, Arrival, Comes, Idle}
use Rattle.model.specs.Meant.{history, taken_now, meant, departures, steps_in}
use Rattle.model.proofs.Undisturbed.{history_same, meant_later, meant_split, later_length, later_same, drop_past}
use Rattle.packet.specs.Carrying.{carried}
use Rattle.packet.specs.Contents.{Contents}
use Rattle.packet.specs.declared.parsed.Refused as packet
use Rattle.update.specs.Decoded as decoded
use Rattle.compiler.specs.Program.{Program, Format, paths_of}
use Rattle.stream.specs.Answering.{Mode, Unloaded, Running, decode, take_apart, brings, refusal, update_writes, updated, writes, next, answers, behind}
use Rattle.stream.specs.Frames.{Frame, Source, Update, Packet, Pause, Unknown, Starved}
use Rattle.stream.specs.Machines.{pipeline, Past, twelve_later}
use Rattle.stream.specs.Writing.{told, sent_all}
use Rattle.stream.proofs.AsMeant.{frames_as_meant}
use Rattle.promise.specs.Others.{OnlyThere, same, differs, own_frame, OthersUndisturbed}

-- what is written before both
in_front : (this that out out' w w' : List ℕ) → w ≡ w' → OnlyThere this that out out' → OnlyThere this that (w ++ out) (w' ++ out')
in_front this that out out' w w' e (same s) = same (ap₂ (λ (a b : List ℕ). a ++ b) e s)
in_front this that out out' w w' e (differs before later is is') =
    differs (w ++ before) later (ap (λ (l : List ℕ). w ++ l) is ∙ sym (append_assoc w before (this ++ later)))
    (ap₂ (λ (a b : List ℕ). a ++ b) (sym e) is' ∙ sym (append_assoc w before (that ++ later)))

module _ (g : Program) (f : Format) (B : List Event) where
  -- the switch after the events L, behind a packet that came after the events B
  abbrev past : model.Packet → List Event → Past
  past p L = record { program = g; events = L ++ (Step (Comes p) ∷ B) }

  abbrev sends : model.Packet → List Event → List Departure
  sends p L = twelve_later.sends (past p L) Idle

  abbrev d : Declarations
  d = g.format.declarations

  abbrev one : model.Packet → Arrival
  one p = Comes (means d (paths_of g) (history 12 empty B).tables p)

  abbrev later : model.Packet → List Event → List Arrival
  later p L = meant_later d (paths_of g) 12 empty B p L

  abbrev earlier : List Arrival
  earlier = meant d (paths_of g) 12 empty B

  -- what goes out, by what was meant later, the packet itself, and what was meant before
  split : (p : model.Packet) (L : List Event) → sends p L ≡ departures (take 1 (drop 11 (later p L ++ (one p ∷ earlier))))
  split p L = ap (λ (l : List Arrival). departures (take 1 (drop 11 l))) (meant_split d (paths_of g) 12 empty B p L)

  own_step : (p : model.Packet) (L : List Event) → steps_in L ≡ 11 → sends p L ≡ departs (means d (paths_of g) (history 12 empty B).tables p)
  unfolding departures
  own_step p L h =
      let n : length (later p L) ≡ 11 = later_length d (paths_of g) 12 empty B p L ∙ h in
      split p L ∙ ap (λ (l : List Arrival). departures (take 1 l)) (drop_at (later p L) (one p ∷ earlier) 11 n)

  module _ (p q : model.Packet) where
    takes_same : (L : List Event) → twelve_later.takes (past p L) ≡ twelve_later.takes (past q L)
    takes_same L = ap (taken_now 12) (history_same 12 empty L B p q)

    same_later : (L : List Event) → later p L ≡ later q L
    same_later L = later_same d (paths_of g) 12 empty B p q L

    -- before the packet's own step, and after it, the same goes out
    before_step : (L : List Event) → steps_in L < 11 → sends p L ≡ sends q L
    before_step L h =
        let n : length (later p L) ≡ steps_in L = later_length d (paths_of g) 12 empty B p L in
        split p L
        ∙ (ap (λ (l : List Arrival). departures (take 1 l)) (drop_past 11 (later p L) (one p) (one q) earlier (omega (arith, h, n)))
        ∙ (ap (λ (l : List Arrival). departures (take 1 (drop 11 (l ++ (one q ∷ earlier))))) (same_later L)
        ∙ sym (split q L)))

    inside : (r : model.Packet) (L : List Event) → 12 ≤ steps_in L → sends r L ≡ departures (take 1 (drop 11 (later r L)))
    inside r L h =
        let n : length (later r L) ≡ steps_in L = later_length d (paths_of g) 12 empty B r L in
        let m : length (drop 11 (later r L)) ≡ length (later r L) - 11 = length-drop 11 (later r L) in
        split r L
        ∙ (ap (λ (l : List Arrival). departures (take 1 l)) (drop-append-le 11 (later r L) (one r ∷ earlier) (omega (arith, h, n)))
        ∙ ap departures (take-append-le 1 (drop 11 (later r L)) (one r ∷ earlier) (omega (arith, h, n, m))))

    after_step : (L : List Event) → 12 ≤ steps_in L → sends p L ≡ sends q L
    after_step L h = inside p L h ∙ (ap (λ (l : List Arrival). departures (take 1 (drop 11 l))) (same_later L) ∙ sym (inside q L h))

    abbrev state : model.Packet → List Event → Mode Past
    state r L = Running f (past r L)

    abbrev updates : decoded.Decoded → List Event → List Event
    updates (decoded.Taken gs) L = pipe.Update gs ∷ L
    updates (decoded.Refused e) L = L

    next_update : (r : model.Packet) (L : List Event) (u : decoded.Decoded) → Running f (updated twelve_later (past r L) u) ≡ state r (updates u L)
    next_update r L (decoded.Taken gs) = refl
    next_update r L (decoded.Refused e) = refl

    steps_update : (L : List Event) (u : decoded.Decoded) → steps_in (updates u L) ≡ steps_in L
    unfolding steps_in
    steps_update L (decoded.Taken gs) = refl
    steps_update L (decoded.Refused e) = refl

    -- once the packet has left, nothing differs
    all_same : (fs : List Frame) (L : List Event) → 12 ≤ steps_in L → answers twelve_later (state p L) fs ≡ answers twelve_later (state q L) fs
    unfolding answers steps_in
    all_same [] L h = refl
    all_same (Source body ∷ fs) L h = ap (λ (l : List ℕ). told 13 0 ++ l) (all_same fs L h)
    all_same (Update body ∷ fs) L h =
        let u = decode f body in
        ap₂ (λ (b : Bool) (l : List ℕ). update_writes b u ++ l) (takes_same L)
        (ap (λ (a : Mode Past). answers twelve_later a fs) (next_update p L u)
        ∙ (all_same fs (updates u L) (omega (arith, h, steps_update L u))
        ∙ sym (ap (λ (a : Mode Past). answers twelve_later a fs) (next_update q L u))))
    all_same (Packet body ∷ fs) L h =
        ap₂ (λ (xs : List Departure) (l : List ℕ). (refusal (take_apart f body) ++ sent_all f xs) ++ l) (after_step L h) (all_same fs (Step (brings (take_apart f body)) ∷ L) (omega (arith, h)))
    all_same (Pause ∷ fs) L h =
        ap₂ (λ (xs : List Departure) (l : List ℕ). sent_all f xs ++ l) (after_step L h) (all_same fs (Step Idle ∷ L) (omega (arith, h)))
    all_same (Unknown ∷ fs) L h = refl
    all_same (Starved ∷ fs) L h = ap (λ (l : List ℕ). told 255 0 ++ l) (all_same fs L h)

    abbrev own : model.Packet → List ℕ
    own r = sent_all f (departs (means d (paths_of g) (history 12 empty B).tables r))

    abbrev Only : List ℕ → List ℕ → Type 0
    Only out out' = OnlyThere (own p) (own q) out out'

    -- a step, with w written before what leaves
    step_only : (w : List ℕ) (a : Arrival) (fs : List Frame) (L : List Event) → steps_in L ≤ 11 →
        ((M : List Event) → steps_in M ≤ 11 → Only (answers twelve_later (state p M) fs) (answers twelve_later (state q M) fs)) →
        Only ((w ++ sent_all f (sends p L)) ++ answers twelve_later (state p (Step a ∷ L)) fs) ((w ++ sent_all f (sends q L)) ++ answers twelve_later (state q (Step a ∷ L)) fs)
    unfolding steps_in
    step_only w a fs L h more = elim (cases_lt (steps_in L) 11) [
      | inl sooner ↦
          in_front (own p) (own q) (answers twelve_later (state p (Step a ∷ L)) fs) (answers twelve_later (state q (Step a ∷ L)) fs) (w ++ sent_all f (sends p L)) (w ++ sent_all f (sends q L))
          (ap (λ (xs : List Departure). w ++ sent_all f xs) (before_step L sooner)) (more (Step a ∷ L) (omega (arith, sooner)))
      | inr later-on ↦
          let now-it : steps_in L ≡ 11 = omega (arith, h, later-on) in
          let tail = answers twelve_later (state p (Step a ∷ L)) fs in
          differs w tail
          (ap (λ (xs : List Departure). (w ++ sent_all f xs) ++ tail) (own_step p L now-it) ∙ append_assoc w (own p) tail)
          (ap₂ (λ (xs : List Departure) (l : List ℕ). (w ++ sent_all f xs) ++ l) (own_step q L now-it) (sym (all_same fs (Step a ∷ L) (omega (arith, now-it)))) ∙ append_assoc w (own q) tail)
    ]

    only_there : (fs : List Frame) (L : List Event) → steps_in L ≤ 11 → Only (answers twelve_later (state p L) fs) (answers twelve_later (state q L) fs)
    unfolding answers
    only_there [] L h = same refl
    only_there (Source body ∷ fs) L h =
        in_front (own p) (own q) (answers twelve_later (state p L) fs) (answers twelve_later (state q L) fs) (told 13 0) (told 13 0) refl (only_there fs L h)
    only_there (Update body ∷ fs) L h =
        let u = decode f body in
        in_front (own p) (own q) (answers twelve_later (Running f (updated twelve_later (past p L) u)) fs) (answers twelve_later (Running f (updated twelve_later (past q L) u)) fs)
        (update_writes (twelve_later.takes (past p L)) u) (update_writes (twelve_later.takes (past q L)) u) (ap (λ (b : Bool). update_writes b u) (takes_same L))
        (rw (next_update p L u, next_update q L u) (only_there fs (updates u L) (omega (arith, h, steps_update L u))))
    only_there (Packet body ∷ fs) L h = step_only (refusal (take_apart f body)) (brings (take_apart f body)) fs L h (only_there fs)
    only_there (Pause ∷ fs) L h = step_only [] Idle fs L h (only_there fs)
    only_there (Unknown ∷ fs) L h = same refl
    only_there (Starved ∷ fs) L h =
        in_front (own p) (own q) (answers twelve_later (state p L) fs) (answers twelve_later (state q L) fs) (told 255 0) (told 255 0) refl (only_there fs L h)

answers_append : (fs gs : List Frame) (a : Mode Past) → answers twelve_later a (fs ++ gs) ≡ answers twelve_later a fs ++ answers twelve_later (behind twelve_later a fs) gs
unfolding answers behind
answers_append [] gs a = refl
answers_append (x ∷ fs) gs a =
    ap (λ (l : List ℕ). writes twelve_later a x ++ l) (answers_append fs gs (next twelve_later a x))
    ∙ sym (append_assoc (writes twelve_later a x) (answers twelve_later (next twelve_later a x) fs) (answers twelve_later (behind twelve_later (next twelve_later a x) fs) gs))

-- the packet comes in
comes_in_lem : (f : Format) (h : Past) (x : List ℕ) (k : Contents) (later : List Frame) → take_apart f x ≡ Ok k →
    answers twelve_later (Running f h) (Packet x ∷ later) ≡ sent_all f (twelve_later.sends h Idle) ++ answers twelve_later (Running f (past h.program f h.events (carried k) [])) later
unfolding answers
comes_in_lem f h x k later parses =
    ap (λ (r : Result Contents packet.Refused). (refusal r ++ sent_all f (twelve_later.sends h Idle)) ++ answers twelve_later (Running f (twelve_later.after (Step (brings r)) h)) later) parses

pub others_undisturbed : OthersUndisturbed
unfolding steps_in
others_undisturbed before later f h x y k l runs parses parses' =
    let w : List ℕ = answers twelve_later Unloaded before in
    let s : List ℕ = sent_all f (twelve_later.sends h Idle) in
    let out : Contents → List ℕ = λ c. answers twelve_later (Running f (past h.program f h.events (carried c) [])) later in
    let whole : (z : List ℕ) (c : Contents) → take_apart f z ≡ Ok c → answers pipeline Unloaded (before ++ (Packet z ∷ later)) ≡ w ++ (s ++ out c) = λ z c e.
    frames_as_meant (before ++ (Packet z ∷ later))
    ∙ (answers_append before (Packet z ∷ later) Unloaded
    ∙ (ap (λ (a : Mode Past). w ++ answers twelve_later a (Packet z ∷ later)) runs ∙ ap (λ (m : List ℕ). w ++ m) (comes_in_lem f h z c later e))) in
    let only = only_there h.program f h.events (carried k) (carried l) later [] (omega arith) in
    rw (whole x k parses, whole y l parses')
    (in_front (own_frame f h k) (own_frame f h l) (s ++ out k) (s ++ out l) w w refl
    (in_front (own_frame f h k) (own_frame f h l) (out k) (out l) s s refl only))
