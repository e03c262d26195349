-- Worked cases: what the definitions give, beside what a person works out by hand.
use Rattle.std.specs.Prelude.{ℕ, zero, suc, Bool, true, false, cond, List, [], ◌∷◌, ◌++◌}
use Rattle.model.specs.Packet.{Packet, Departure, put}
use Rattle.model.specs.Declarations.{Declarations, Ternary}
use Rattle.model.specs.Action.{Test, Equals, Set, Number, act}
use Rattle.model.specs.Table.{Entry, chosen}
use Rattle.model.specs.Paths.{Paths, Stop}
use Rattle.model.specs.Blocks.{Done, Table, If, paths_of}
use Rattle.model.specs.Node.{Node, Halt, Look, Ask, node}
use Rattle.model.specs.Version.{Version, Replace, empty}
use Rattle.model.specs.Pipeline.{Idle, Comes, Event, Step, Update, counted, leaves, takes, run, outputs}
use Rattle.model.specs.Answer.{code_of, answered}
use Rattle.model.specs.Meant.{steps_in}
use Rattle.model.specs.Placement.{rule}

-- what a case speaks of: a row of nodes; the steps at which packets leave; fields of the packets that left; the codes that updates are answered; entries by index
pub data Outcome : Type 0 where
  Nodes : List Node → Outcome
  LeavesAt : List ℕ → Outcome
  Fields : List ℕ → Outcome
  Codes : List ℕ → Outcome
  Entries : List ℕ → Outcome

pub record Case : Type 0 where
  pub computed : Outcome
  pub expected : Outcome

-- a field f, number 1, and fields 2 and 3, all of 8 bits; tables t and u, numbers 0 and 1, that look at f and may set the others
abbrev pub declared : Declarations
declared = record {
  width = λ f. 8;
  table = λ n. record { kind = Ternary; looks = 1 ∷ []; sets = 2 ∷ (3 ∷ []); lines = 64 };
}

-- apply t; apply u;
abbrev pub in_row : Paths
in_row = paths_of (Table 0 0 (Table 9 1 Done)) (Stop 18)

-- f == 1
abbrev pub is_one : Test
is_one = Equals 1 (Number 1)

-- if f == 1 { apply t; } apply u;
abbrev pub branching : Paths
branching = paths_of (If 0 is_one (Table 12 0 Done) Done (Table 23 1 Done)) (Stop 32)

-- a packet of zeros
abbrev pub zeros : Packet
zeros f = 0

-- entries that fit every packet: t sets field 2 to x, u sets field 3 to x
abbrev pub always : ℕ → ℕ → Entry
always f x = record { patterns = record { value = 0; mask = 0 } ∷ []; actions = Set f (Number x) ∷ [] }

abbrev pub both : ℕ → Event
both x = Update (Replace 0 (always 2 x ∷ []) ∷ (Replace 1 (always 3 x ∷ []) ∷ []))

-- so many idle steps behind the events
unfoldable pub idle_for : ℕ → List Event → List Event
idle_for zero es = es
idle_for (suc n) es = Step Idle ∷ idle_for n es

abbrev pub first : Version
first = record { declarations = declared; nodes = rule in_row; tables = empty }

abbrev pub anything : List Departure → Bool
anything [] = false
anything (x ∷ xs) = true

-- the steps, counted from 0, at which something leaves
unfoldable pub leaving_steps : List Event → List ℕ
leaving_steps [] = []
leaving_steps (Step a ∷ es) = leaving_steps es ++ cond (anything (leaves (run counted 12 first es))) (steps_in es ∷ []) []
leaving_steps (Update gs ∷ es) = leaving_steps es

-- fields 2 and 3 of each packet that left, in order
unfoldable pub fields_of : List Departure → List ℕ
fields_of [] = []
fields_of (x ∷ xs) = fields_of xs ++ (x.packet 2 ∷ (x.packet 3 ∷ []))

-- the codes that the updates were answered, in order
unfoldable pub answers : List Event → List ℕ
answers [] = []
answers (Step a ∷ es) = answers es
answers (Update gs ∷ es) = answers es ++ (code_of (answered (takes counted (run counted 12 first es))) ∷ [])

-- steps 0 to 4 idle, a packet at step 5
abbrev pub fifth : List Event → List Event
fifth es = Step (Comes zeros) ∷ idle_for 5 es

-- old entries; a packet at step 5; new entries; a packet at step 6
abbrev pub changed : List Event
changed = Step (Comes zeros) ∷ (both 2 ∷ fifth (both 1 ∷ []))

-- further: a second update between steps 8 and 9, and again between steps 17 and 18
abbrev pub twice : List Event
twice = both 3 ∷ idle_for 9 (both 3 ∷ idle_for 2 changed)

-- an entry for the fields whose high four bits are 1, and one that fits all
abbrev pub by_high_bits : List Entry
by_high_bits =
    record { patterns = record { value = 0x10; mask = 0xF0 } ∷ []; actions = [] } ∷
    (record { patterns = record { value = 0; mask = 0 } ∷ []; actions = [] } ∷ [])

abbrev pub chosen_at : ℕ → ℕ
chosen_at x = chosen (declared.table 0) by_high_bits (put 1 x zeros)

unfoldable pub cases : List Case
cases =
    -- A. two tables in a row stand on stages 0 and 1, then a halt
    record { computed = Nodes (rule in_row); expected = Nodes (node 0 (Look 0 1) ∷ (node 1 (Look 1 2) ∷ (node 0 Halt ∷ []))) } ∷
    -- B. what follows an if is laid out twice: u on stage 1 behind t, else on stage 0
    (record {
      computed = Nodes (rule branching);
      expected = Nodes (node 0 (Ask is_one 1 4) ∷ (node 0 (Look 0 2) ∷ (node 1 (Look 1 3) ∷ (node 0 Halt ∷ (node 0 (Look 1 5) ∷ (node 0 Halt ∷ []))))));
    } ∷
    -- C. a packet that comes at step 5 leaves at step 17
    (record { computed = LeavesAt (leaving_steps (idle_for 20 (fifth []))); expected = LeavesAt (17 ∷ []) } ∷
    -- D. an update between steps 5 and 6: the packet of step 5 goes by the old entries at all its tables, that of step 6 by the new
    (record { computed = Fields (fields_of (outputs counted 12 first (idle_for 12 changed))); expected = Fields (1 ∷ (1 ∷ (2 ∷ (2 ∷ [])))) } ∷
    -- E. a second update between steps 8 and 9 is refused with 12; given again between steps 17 and 18 it is taken
    (record { computed = Codes (answers twice); expected = Codes (0 ∷ (0 ∷ (12 ∷ (0 ∷ [])))) } ∷
    -- F. 300 in a field of 8 bits is 44
    (record { computed = Fields (act declared (Set 1 (Number 300)) zeros 1 ∷ []); expected = Fields (44 ∷ []) } ∷
    -- G. mask 0xF0 value 0x10, then mask 0 value 0: 0x1F takes the first, 0x20 the second
    (record { computed = Entries (chosen_at 0x1F ∷ (chosen_at 0x20 ∷ [])); expected = Entries (0 ∷ (1 ∷ [])) } ∷ []))))))
