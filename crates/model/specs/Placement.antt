-- The placement rule: how a program is laid out as a row of nodes, without and with the limits of a stage.
use Rattle.std.specs.Prelude.{ℕ, zero, suc, ◌+◌, ◌-◌, max, Bool, true, false, cond, not, ◌&&◌, ◌||◌, List, [], ◌∷◌, ◌++◌, length, ◌==◌, nat_lt}
use Rattle.model.specs.Paths.{Paths, Stop, Apply, Branch, Act}
use Rattle.model.specs.Node.{Node, Halt, Look, Ask, Do, node, halts, looks, in_place}

-- which stage a node takes: is it a table, the nodes placed so far, and the lowest stage that it may take
abbrev pub Finder : Type 0
Finder = Bool → List Node → ℕ → ℕ

-- without limits: the lowest
abbrev pub unlimited : Finder
unlimited table placed s = s

-- nodes on stage s, halts not counted, as they need no stage
unfoldable pub nodes_on : ℕ → List Node → ℕ
nodes_on s [] = 0
nodes_on s (n ∷ ns) = cond (n.stage == s && not (halts n.does)) 1 0 + nodes_on s ns

-- tables on stage s
unfoldable pub tables_on : ℕ → List Node → ℕ
tables_on s [] = 0
tables_on s (n ∷ ns) = cond (n.stage == s && looks n.does) 1 0 + tables_on s ns

-- the most nodes, and the most tables, on one stage
abbrev pub most_nodes : ℕ
most_nodes = 64

abbrev pub most_tables : ℕ
most_tables = 4

-- has stage s room for one node more, a table or another
abbrev pub has_room : Bool → List Node → ℕ → Bool
has_room table placed s = nat_lt (nodes_on s placed) most_nodes && (not table || nat_lt (tables_on s placed) most_tables)

-- one past the highest stage in use: from there on stages are empty
unfoldable pub beyond : List Node → ℕ
beyond [] = 0
beyond (n ∷ ns) = max (suc n.stage) (beyond ns)

-- the first of so many stages from s on that has room, else the one behind them
unfoldable pub room_among : ℕ → Bool → List Node → ℕ → ℕ
room_among zero table placed s = s
room_among (suc more) table placed s = cond (has_room table placed s) s (room_among more table placed (suc s))

-- with limits: the first stage that has room
abbrev pub limited : Finder
limited table placed s = room_among (beyond placed - s) table placed s

-- how many nodes the paths take, halts counted
unfoldable pub size : Paths → ℕ
size (Stop o) = 1
size (Apply o n x) = suc (size x)
size (Branch o c x y) = suc (size x + size y)
size (Act o a x) = suc (size x)

-- the lowest stage for a table: one more than the stage of the node before, if something was changed there on this path
abbrev pub table_from : ℕ → Bool → ℕ
table_from s changed = cond changed (suc s) s

-- whether something was changed on a node's stage before it on its path: a node that moved to another stage finds it as the packet came
abbrev pub still_changed : Bool → ℕ → ℕ → Bool
still_changed changed s moved_to = changed && moved_to == s

-- the row so far, with the paths behind it. s: the stage of the node before on this path; changed: was something changed on it.
-- Behind a branch stands first all of its yes path, then all of its no path.
unfoldable pub laid_from : Finder → List Node → ℕ → Bool → Paths → List Node
laid_from find placed s changed (Stop o) = placed ++ (node 0 Halt ∷ [])
laid_from find placed s changed (Apply o n x) =
    let st = find true placed (table_from s changed) in
    laid_from find (placed ++ (node st (Look n (length placed + 1)) ∷ [])) st true x
laid_from find placed s changed (Branch o c x y) =
    let st = find false placed s in
    let b = still_changed changed s st in
    laid_from find (laid_from find (placed ++ (node st (Ask c (length placed + 1) (length placed + 1 + size x)) ∷ [])) st b x) st b y
laid_from find placed s changed (Act o a x) =
    let st = find false placed s in
    laid_from find (placed ++ (node st (Do a (length placed + 1)) ∷ [])) st true x

-- the whole row of a program
abbrev pub laid : Finder → Paths → List Node
laid find x = laid_from find [] 0 false x

-- the placement rule without the limits of a stage, and with them
abbrev pub plain_rule : Paths → List Node
plain_rule x = laid unlimited x

abbrev pub rule : Paths → List Node
rule x = laid limited x

-- is every node in place on k stages
unfoldable pub within : ℕ → List Node → Bool
within k [] = true
within k (n ∷ ns) = in_place k n && within k ns

-- the most tables on one path that stand behind a change
unfoldable pub tables_behind : Bool → Paths → ℕ
tables_behind changed (Stop o) = 0
tables_behind changed (Apply o n x) = cond changed 1 0 + tables_behind true x
tables_behind changed (Branch o c x y) = max (tables_behind changed x) (tables_behind changed y)
tables_behind changed (Act o a x) = tables_behind true x
