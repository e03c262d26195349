-- Which programs the placement rule takes, where a refusal points, and placement that stops: as much work as there may be nodes, however many paths there are.
use Rattle.std.specs.Prelude.{ℕ, zero, suc, ◌+◌, min, Bool, true, false, cond, List, [], ◌∷◌, ◌++◌, length, nat_lt, slice_set}
use Rattle.model.specs.Paths.{Paths, Stop, Apply, Branch, Act}
use Rattle.model.specs.Node.{Node, Halt, Look, Ask, Do, node, in_place}
use Rattle.model.specs.Placement.{limited, table_from, still_changed, rule}

-- the row of a program that is taken, or the offset of one that is refused
pub data Verdict : Type 0 where
  Placed : List Node → Verdict
  Refused : (offset : ℕ) → Verdict

-- the offsets of the paths' parts, in the order of the row
unfoldable pub offsets : Paths → List ℕ
offsets (Stop o) = o ∷ []
offsets (Apply o n x) = o ∷ offsets x
offsets (Branch o c x y) = o ∷ (offsets x ++ offsets y)
offsets (Act o a x) = o ∷ offsets x

-- the offsets of the nodes that are out of place: of the first so many those that stand past the last of k stages, and the one behind these
unfoldable pub misplaced : ℕ → ℕ → List Node → List ℕ → List ℕ
misplaced k most [] os = []
misplaced k most (n ∷ ns) [] = []
misplaced k zero (n ∷ ns) (o ∷ os) = o ∷ []
misplaced k (suc most) (n ∷ ns) (o ∷ os) = cond (in_place k n) (misplaced k most ns os) (o ∷ misplaced k most ns os)

-- the smallest number seen so far, if any was seen
pub data Lowest : Type 0 where
  None : Lowest
  At : ℕ → Lowest

abbrev pub lower : Lowest → ℕ → Lowest
lower None o = At o
lower (At p) o = At (min o p)

unfoldable pub lowest : Lowest → List ℕ → Lowest
lowest w [] = w
lowest w (o ∷ os) = lowest (lower w o) os

abbrev pub verdict : List Node → Lowest → Verdict
verdict row None = Placed row
verdict row (At o) = Refused o

-- the rule's row if all of it is in place, else the smallest offset of a node that is not
abbrev pub placement : ℕ → ℕ → Paths → Verdict
placement k most x = verdict (rule x) (lowest None (misplaced k most (rule x) (offsets x)))

-- placement under way: the row so far and the smallest offset out of place; or stopped at one node too many
pub data Progress : Type 0 where
  Going : List Node → Lowest → Progress
  Stopped : (offset : ℕ) → Progress

abbrev pub and_then : Progress → (List Node → Lowest → Progress) → Progress
and_then (Going row w) f = f row w
and_then (Stopped o) f = Stopped o

abbrev pub ended : Progress → Verdict
ended (Going row w) = verdict row w
ended (Stopped o) = Refused o

abbrev pub offset_of : Lowest → ℕ → ℕ
offset_of None o = o
offset_of (At p) o = min o p

-- one node more, if it is not one too many
abbrev pub if_room : ℕ → List Node → Lowest → ℕ → Progress → Progress
if_room most row w o go = cond (nat_lt (length row) most) go (Stopped (offset_of w o))

-- a node's offset is noted if it is out of place
abbrev pub noted : ℕ → Lowest → Node → ℕ → Lowest
noted k w n o = cond (in_place k n) w (lower w o)

-- As the rule, but it stops at the node behind the first `most`. Where a no path begins is written into its branch when its yes path is laid.
unfoldable pub stopping : ℕ → ℕ → List Node → Lowest → ℕ → Bool → Paths → Progress
stopping k most row w s changed (Stop o) =
    if_room most row w o (Going (row ++ (node 0 Halt ∷ [])) w)
stopping k most row w s changed (Apply o n x) =
    let st = limited true row (table_from s changed) in
    let here = node st (Look n (length row + 1)) in
    if_room most row w o (stopping k most (row ++ (here ∷ [])) (noted k w here o) st true x)
stopping k most row w s changed (Branch o c x y) =
    let st = limited false row s in
    let b = still_changed changed s st in
    let here = node st (Ask c (length row + 1) 0) in
    if_room most row w o
    (and_then (stopping k most (row ++ (here ∷ [])) (noted k w here o) st b x)
    (λ row2 w2. stopping k most (slice_set row2 (length row) (node st (Ask c (length row + 1) (length row2)))) w2 st b y))
stopping k most row w s changed (Act o a x) =
    let st = limited false row s in
    let here = node st (Do a (length row + 1)) in
    if_room most row w o (stopping k most (row ++ (here ∷ [])) (noted k w here o) st true x)

abbrev pub stopped : ℕ → ℕ → Paths → Verdict
stopped k most x = ended (stopping k most [] None 0 false x)
