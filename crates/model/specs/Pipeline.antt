-- The pipeline: a slot for each stage, packets that follow one another through them, and versions that change under way.
use Rattle.std.specs.Prelude.{ℕ, zero, suc, ◌+◌, Bool, false, cond, not, ◌||◌, List, [], ◌∷◌, ◌++◌, length, nat_eq, nat_lt}
use Rattle.std.specs.Bool.{beq}
use Rattle.model.specs.Packet.{Packet, Departure, departs}
use Rattle.model.specs.Version.{Version, Edit, updated}
use Rattle.model.specs.Stage.{Transit, on_stage}

-- how versions are told apart: the first, the one behind a version, whether two are the same, and whether a version (the second) is older than the newest (the first)
pub record Numbering (V : Type 0) : Type 0 where
  pub first : V
  pub next : V → V
  pub same : V → V → Bool
  pub older : V → V → Bool

-- counted up without end: every version that ever was is kept
abbrev pub counted : Numbering ℕ
counted = record { first = 0; next = suc; same = nat_eq; older = λ newest v. nat_lt v newest }

-- told apart by one bit: two versions are kept, and whatever is not the newest is older
abbrev pub one_bit : Numbering Bool
one_bit = record { first = false; next = not; same = beq; older = λ newest v. not (beq newest v) }

-- free, or with a packet under way and the version that it goes by
pub data Slot (V : Type 0) : Type 0 where
  Free : Slot V
  Holds : Transit → V → Slot V

-- the slots from stage 0 on, what each version stands for, and the newest version
pub record Pipeline (V : Type 0) : Type 0 where
  pub slots : List (Slot V)
  pub versions : V → Version
  pub newest : V

-- what a step brings
pub data Arrival : Type 0 where
  Idle : Arrival
  Comes : Packet → Arrival

-- a step, or an update between two steps
pub data Event : Type 0 where
  Step : Arrival → Event
  Update : List Edit → Event

module _ {V : Type 0} where
  -- the work of stage s on its slot; the row of nodes bounds how many are done
  abbrev pub worked_slot : (V → Version) → ℕ → Slot V → Slot V
  worked_slot vs s Free = Free
  worked_slot vs s (Holds u v) = Holds (on_stage (length (vs v).nodes) (vs v) s u.packet u) v

  -- the work of all stages from s on, in one step
  unfoldable pub worked : (V → Version) → ℕ → List (Slot V) → List (Slot V)
  worked vs s [] = []
  worked vs s (x ∷ xs) = worked_slot vs s x ∷ worked vs (s + 1) xs

  unfoldable pub last_of : List (Slot V) → Slot V
  last_of [] = Free
  last_of (x ∷ []) = x
  last_of (x ∷ (y ∷ xs)) = last_of (y ∷ xs)

  unfoldable pub but_last : List (Slot V) → List (Slot V)
  but_last [] = []
  but_last (x ∷ []) = []
  but_last (x ∷ (y ∷ xs)) = x ∷ but_last (y ∷ xs)

  -- what comes stands at node 0 with the newest version
  abbrev pub arriving : V → Arrival → Slot V
  arriving v Idle = Free
  arriving v (Comes p) = Holds (record { packet = p; at = 0 }) v

  -- one step: all stages work, the packet of the last slot leaves, all others move on by one, and what comes stands in slot 0
  abbrev pub advance : Arrival → Pipeline V → Pipeline V
  advance a c = record {
    slots = arriving c.newest a ∷ but_last (worked c.versions 0 c.slots);
    versions = c.versions;
    newest = c.newest;
  }

  abbrev pub departing : Slot V → List Departure
  departing Free = []
  departing (Holds u v) = departs u.packet

  -- what leaves in the next step
  abbrev pub leaves : Pipeline V → List Departure
  leaves c = departing (last_of (worked c.versions 0 c.slots))

  -- has a packet in a slot a version before the newest
  abbrev pub older_slot : Numbering V → V → Slot V → Bool
  older_slot n newest Free = false
  older_slot n newest (Holds u v) = n.older newest v

  unfoldable pub any_older : Numbering V → V → List (Slot V) → Bool
  any_older n newest [] = false
  any_older n newest (x ∷ xs) = older_slot n newest x || any_older n newest xs

  -- an update is taken if no packet of a version before the newest is in a slot
  abbrev pub takes : Numbering V → Pipeline V → Bool
  takes n c = not (any_older n c.newest c.slots)

  -- an update that is taken makes a new version, for the packets that come later
  abbrev pub renewed : Numbering V → List Edit → Pipeline V → Pipeline V
  renewed n gs c = record {
    slots = c.slots;
    versions = λ v. cond (n.same v (n.next c.newest)) (updated gs (c.versions c.newest)) (c.versions v);
    newest = n.next c.newest;
  }

  abbrev pub event : Numbering V → Event → Pipeline V → Pipeline V
  event n (Step a) c = advance a c
  event n (Update gs) c = cond (takes n c) (renewed n gs c) c

  unfoldable pub free : ℕ → List (Slot V)
  free zero = []
  free (suc k) = Free ∷ free k

  -- k free slots
  abbrev pub start : Numbering V → ℕ → Version → Pipeline V
  start n k v = record { slots = free k; versions = λ _. v; newest = n.first }

  -- after a list of events, the latest first
  unfoldable pub run : Numbering V → ℕ → Version → List Event → Pipeline V
  run n k v [] = start n k v
  run n k v (e ∷ es) = event n e (run n k v es)

  -- all that has left, the latest first
  unfoldable pub outputs : Numbering V → ℕ → Version → List Event → List Departure
  outputs n k v [] = []
  outputs n k v (Step a ∷ es) = leaves (run n k v es) ++ outputs n k v es
  outputs n k v (Update gs ∷ es) = outputs n k v es
