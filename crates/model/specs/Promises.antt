-- The promises over the model. Each is a statement; a function of src/lib.rt has it for its contract, so that it is proved.
use Rattle.std.specs.Prelude.{◌≡◌, ℕ, suc, ◌-◌, ◌<◌, ◌≤◌, Bool, true, false, ◌↔◌, List, [], ◌∷◌, ◌++◌, map, length, take, drop, slice_index_or}
use mathlib.Core.List.{Memᴰ}
use Rattle.model.specs.Packet.{Packet, Departure, departs}
use Rattle.model.specs.Declarations.{Declarations}
use Rattle.model.specs.Table.{Tables}
use Rattle.model.specs.Paths.{Paths, Stop}
use Rattle.model.specs.Meaning.{means}
use Rattle.model.specs.Blocks.{Block, paths_of, done}
use Rattle.model.specs.Statements.{program_of, row_of}
use Rattle.model.specs.Node.{Node}
use Rattle.model.specs.Version.{Version}
use Rattle.model.specs.Stage.{Transit}
use Rattle.model.specs.Pipeline.{Free, Holds, Pipeline, Comes, Event, Step, counted, one_bit, leaves, takes, run, outputs}
use Rattle.model.specs.Meant.{history, taken_now, meant, departures, steps_in}
use Rattle.model.specs.Sound.{Layout}
use Rattle.model.specs.Placement.{plain_rule, rule, nodes_on, tables_on, most_nodes, most_tables, has_room, within, tables_behind, limited}
use Rattle.model.specs.Stopping.{Placed, Refused, placement, stopped, misplaced, offsets}
use Rattle.model.specs.TwoVersions.{bit, bit_slot, NewestOrBefore, EachSlot}
use Rattle.model.specs.Untouched.{Every, TablesBelow, PathsBelow, EventBelow}
use Rattle.model.specs.Cases.{Case, cases}

-- 1. Placement. What the rule lays out within k stages is sound, without and with the limits of a stage; with limits no stage ever holds too much;
-- a node takes the first stage with room; the two rules agree as long as no stage is full; and without limits one stage more suffices than there are tables behind a change on a path.
pub record PlacementSound (x : Paths) : Type 0 where
  pub plain_sound : (k : ℕ) → within k (plain_rule x) ≡ true → Layout k (plain_rule x) x
  pub sound : (k : ℕ) → within k (rule x) ≡ true → Layout k (rule x) x
  pub never_full : (s : ℕ) → (nodes_on s (rule x) ≤ most_nodes) × (tables_on s (rule x) ≤ most_tables)
  pub agree : ((s : ℕ) → (nodes_on s (plain_rule x) ≤ most_nodes) × (tables_on s (plain_rule x) ≤ most_tables)) → rule x ≡ plain_rule x
  pub suffices : within (suc (tables_behind false x)) (plain_rule x) ≡ true

pub record FirstRoom (table : Bool) (placed : List Node) (from : ℕ) : Type 0 where
  pub not_before : from ≤ limited table placed from
  pub room : has_room table placed (limited table placed from) ≡ true
  pub first : (s : ℕ) → from ≤ s → s < limited table placed from → has_room table placed s ≡ false

abbrev pub PlacementIsSound : Type 0
PlacementIsSound = ((x : Paths) → PlacementSound x) × ((table : Bool) (placed : List Node) (from : ℕ) → FirstRoom table placed from)

-- 2. Placement that stops is the rule: the rule's row if and only if none of its nodes is out of place, else the smallest offset among those that are.
pub record StopsRightly (k most : ℕ) (x : Paths) : Type 0 where
  pub same : stopped k most x ≡ placement k most x
  pub placed : (stopped k most x ≡ Placed (rule x)) ↔ (misplaced k most (rule x) (offsets x) ≡ [])
  pub all_in_place : (misplaced k most (rule x) (offsets x) ≡ []) ↔ ((within k (rule x) ≡ true) × (length (rule x) ≤ most))
  pub refused : (o : ℕ) → stopped k most x ≡ Refused o → Memᴰ o (misplaced k most (rule x) (offsets x)) × ((p : ℕ) → Memᴰ p (misplaced k most (rule x) (offsets x)) → o ≤ p)

abbrev pub StoppingIsTheRule : Type 0
StoppingIsTheRule = (k most : ℕ) (x : Paths) → StopsRightly k most x

-- a version with these nodes and tables
abbrev pub version : Declarations → List Node → Tables → Version
version d ns t = record { declarations = d; nodes = ns; tables = t }

-- 3. As meant. Whatever row of nodes is sound for a program, and whatever packets, idle steps and updates come, in any order: what has left is what came, in order, but for the k latest steps,
-- each packet as the program means it with the tables as they stood when it came; and what leaves in the next step is what came k steps before it.
pub record LeavesAsMeant (d : Declarations) (x : Paths) (k : ℕ) (ns : List Node) (t : Tables) (es : List Event) : Type 0 where
  pub all : outputs counted k (version d ns t) es ≡ departures (drop k (meant d x k t es))
  pub after_k_steps : leaves (run counted k (version d ns t) es) ≡ departures (take 1 (drop (k - 1) (meant d x k t es)))

abbrev pub AsMeant : Type 0
AsMeant = (d : Declarations) (x : Paths) (k : ℕ) (ns : List Node) → 0 < k → Layout k ns x → (t : Tables) (es : List Event) → LeavesAsMeant d x k ns t es

-- 4. Alone. With another packet q in the place of p as many leave, and all others leave as before. While it is under way it shows nowhere;
-- once it has left, in k steps, the others stand before and behind it as they did.
pub record Undisturbed (d : Declarations) (x : Paths) (k : ℕ) (ns : List Node) (t : Tables) (later before : List Event) (p q : Packet) : Type 0 where
  pub as_many : length (outputs counted k (version d ns t) (later ++ (Step (Comes p) ∷ before))) ≡ length (outputs counted k (version d ns t) (later ++ (Step (Comes q) ∷ before)))
  pub under_way : steps_in later < k → outputs counted k (version d ns t) (later ++ (Step (Comes p) ∷ before)) ≡ outputs counted k (version d ns t) (later ++ (Step (Comes q) ∷ before))
  pub others : k ≤ steps_in later → (behind : List Departure) × (ahead : List Departure) ×
      (outputs counted k (version d ns t) (later ++ (Step (Comes p) ∷ before)) ≡ behind ++ (departs (means d x (history k t before).tables p) ++ ahead)) ×
      (outputs counted k (version d ns t) (later ++ (Step (Comes q) ∷ before)) ≡ behind ++ (departs (means d x (history k t before).tables q) ++ ahead))

abbrev pub Alone : Type 0
Alone = (d : Declarations) (x : Paths) (k : ℕ) (ns : List Node) → 0 < k → Layout k ns x → (t : Tables) (later before : List Event) (p q : Packet) → Undisturbed d x k ns t later before p q

-- 5. Updates, for any row of nodes. One is refused exactly while a packet of a version before the newest is in a slot; whether it is taken follows from the events alone;
-- and k steps after the last one that was taken one is taken again, whatever was refused between.
abbrev pub OldPacketIn : Pipeline ℕ → Type 0
OldPacketIn c = (i : ℕ) × (u : Transit) × (v : ℕ) × (i < length c.slots) × (slice_index_or c.slots i Free ≡ Holds u v) × (v < c.newest)

pub record UpdatesTaken (k : ℕ) (v : Version) : Type 0 where
  pub refused_while : (es : List Event) → (takes counted (run counted k v es) ≡ false) ↔ OldPacketIn (run counted k v es)
  pub by_events : (es : List Event) → takes counted (run counted k v es) ≡ taken_now k (history k v.tables es)
  pub soon : (later before : List Event) → (run counted k v (later ++ before)).newest ≡ (run counted k v before).newest → k ≤ steps_in later →
      takes counted (run counted k v (later ++ before)) ≡ true

abbrev pub Updates : Type 0
Updates = (k : ℕ) (v : Version) → 0 < k → UpdatesTaken k v

-- 6. Two versions, for any row of nodes, also one that no placement makes. Each packet under way has the newest version or the one before;
-- so a pipeline that keeps two versions, told apart by one bit, puts out, answers and holds what the one that keeps all does.
pub record TwoSuffice (k : ℕ) (v : Version) (es : List Event) : Type 0 where
  pub newest_or_before : EachSlot (NewestOrBefore (run counted k v es).newest) (run counted k v es).slots
  pub same_output : outputs one_bit k v es ≡ outputs counted k v es
  pub same_next : leaves (run one_bit k v es) ≡ leaves (run counted k v es)
  pub same_answer : takes one_bit (run one_bit k v es) ≡ takes counted (run counted k v es)
  pub same_slots : (run one_bit k v es).slots ≡ map bit_slot (run counted k v es).slots
  pub same_newest : (run one_bit k v es).newest ≡ bit (run counted k v es).newest

abbrev pub TwoVersionsSuffice : Type 0
TwoVersionsSuffice = (k : ℕ) (v : Version) (es : List Event) → TwoSuffice k v es

-- 7. Blocks done from top to bottom mean what their tree of paths means.
abbrev pub BlocksMean : Type 0
BlocksMean = (d : Declarations) (b : Block) (end : ℕ) (t : Tables) (p : Packet) → means d (paths_of b (Stop end)) t p ≡ done d b t p

-- 8. Untouched. A program and tables that change only fields below m leave all others as they were; and updates whose entries change only such fields keep the tables so.
pub record KeptFrom (m : ℕ) : Type 0 where
  pub untouched : (d : Declarations) (x : Paths) (t : Tables) (p : Packet) (f : ℕ) → PathsBelow m x → TablesBelow m t → m ≤ f → means d x t p f ≡ p f
  pub stays : (k : ℕ) (t : Tables) (es : List Event) → TablesBelow m t → Every (EventBelow m) es → TablesBelow m (history k t es).tables

abbrev pub Untouched : Type 0
Untouched = (m : ℕ) → KeptFrom m

-- 9. The worked cases come out as they should.
abbrev pub WorkedCases : Type 0
WorkedCases = map (λ (c : Case). c.computed) cases ≡ map (λ (c : Case). c.expected) cases

-- 10. Blocks written as a row of statements stand for the tree of paths of the blocks.
abbrev pub RowsUnfold : Type 0
RowsUnfold = (end : ℕ) (b : Block) → program_of end (row_of b) ≡ paths_of b (Stop end)
