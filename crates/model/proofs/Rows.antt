-- Rows of nodes: what is counted, in place and found in a row that is put together, and the part of a row that the rule appends.
use Rattle.std.proofs.Common.{◌≡◌, ℕ, suc, ◌+◌, Bool, true, false, cond, not, ◌&&◌, eqb, List, [], ◌∷◌, ◌++◌, length, refl, ap, ◌∙◌, arith}
use Rattle.std.proofs.lemmas.List.{append_assoc, length-append}
use Rattle.std.proofs.lemmas.Bool.{and_parts, and_from}
use Rattle.model.specs.Paths.{Paths, Stop, Apply, Branch, Act}
use Rattle.model.specs.Node.{Node, Halt, Look, Ask, Do, node, halts, looks, in_place}
use Rattle.model.specs.Placement.{Finder, nodes_on, tables_on, size, table_from, still_changed, laid_from, within}

-- counts add up
pub nodes_append : (s : ℕ) (xs ys : List Node) → nodes_on s (xs ++ ys) ≡ nodes_on s xs + nodes_on s ys
unfolding nodes_on
nodes_append s [] ys = omega arith
nodes_append s (x ∷ xs) ys = let h = nodes_append s xs ys in omega arith

pub tables_append : (s : ℕ) (xs ys : List Node) → tables_on s (xs ++ ys) ≡ tables_on s xs + tables_on s ys
unfolding tables_on
tables_append s [] ys = omega arith
tables_append s (x ∷ xs) ys = let h = tables_append s xs ys in omega arith

-- what one node adds to the nodes, and to the tables, of stage s
abbrev pub node_here : ℕ → Node → ℕ
node_here s n = cond (eqb n.stage s && not (halts n.does)) 1 0

abbrev pub table_here : ℕ → Node → ℕ
table_here s n = cond (eqb n.stage s && looks n.does) 1 0

pub nodes_before : (s : ℕ) (xs : List Node) (n : Node) (ys : List Node) → nodes_on s (xs ++ n ∷ ys) ≡ nodes_on s xs + (node_here s n + nodes_on s ys)
unfolding nodes_on
nodes_before s xs n ys = nodes_append s xs (n ∷ ys)

pub tables_before : (s : ℕ) (xs : List Node) (n : Node) (ys : List Node) → tables_on s (xs ++ n ∷ ys) ≡ tables_on s xs + (table_here s n + tables_on s ys)
unfolding tables_on
tables_before s xs n ys = tables_append s xs (n ∷ ys)

pub nodes_one_more : (s : ℕ) (xs : List Node) (n : Node) → nodes_on s (xs ++ n ∷ []) ≡ nodes_on s xs + node_here s n
unfolding nodes_on
nodes_one_more s xs n = let h = nodes_before s xs n [] in omega arith

pub tables_one_more : (s : ℕ) (xs : List Node) (n : Node) → tables_on s (xs ++ n ∷ []) ≡ tables_on s xs + table_here s n
unfolding tables_on
tables_one_more s xs n = let h = tables_before s xs n [] in omega arith

-- all are in place if those of both parts are
pub within_parts : (k : ℕ) (xs ys : List Node) → within k (xs ++ ys) ≡ true → (within k xs ≡ true) × (within k ys ≡ true)
unfolding within
within_parts k [] ys h = (refl, h)
within_parts k (x ∷ xs) ys h =
    let a = and_parts (in_place k x) (within k (xs ++ ys)) h in
    let r = within_parts k xs ys a.1 in
    (and_from (in_place k x) (within k xs) a.0 r.0, r.1)

pub within_both : (k : ℕ) (xs ys : List Node) → within k xs ≡ true → within k ys ≡ true → within k (xs ++ ys) ≡ true
unfolding within
within_both k [] ys h g = g
within_both k (x ∷ xs) ys h g =
    let a = and_parts (in_place k x) (within k xs) h in
    and_from (in_place k x) (within k (xs ++ ys)) a.0 (within_both k xs ys a.1 g)

pub within_one_more : (k : ℕ) (xs : List Node) (n : Node) → within k xs ≡ true → in_place k n ≡ true → within k (xs ++ n ∷ []) ≡ true
unfolding within
within_one_more k xs n h g = within_both k xs (n ∷ []) h (and_from (in_place k n) true g refl)

pub within_at : (k : ℕ) (xs : List Node) (n : Node) (ys : List Node) → within k (xs ++ n ∷ ys) ≡ true → in_place k n ≡ true
unfolding within
within_at k xs n ys h = (and_parts (in_place k n) (within k ys) (within_parts k xs (n ∷ ys) h).1).0

-- a node behind a row, and more behind it
pub push_more : (xs : List Node) (n : Node) (ys : List Node) → (xs ++ n ∷ []) ++ ys ≡ xs ++ n ∷ ys
push_more xs n ys = append_assoc xs (n ∷ []) ys

-- what the rule appends to the row so far
unfoldable pub row_from : Finder → List Node → ℕ → Bool → Paths → List Node
row_from find placed s changed (Stop o) = node 0 Halt ∷ []
row_from find placed s changed (Apply o n x) =
    let st = find true placed (table_from s changed) in
    let here = node st (Look n (length placed + 1)) in
    here ∷ row_from find (placed ++ here ∷ []) st true x
row_from find placed s changed (Branch o c x y) =
    let st = find false placed s in
    let b = still_changed changed s st in
    let here = node st (Ask c (length placed + 1) (length placed + 1 + size x)) in
    here ∷ (row_from find (placed ++ here ∷ []) st b x ++ row_from find (laid_from find (placed ++ here ∷ []) st b x) st b y)
row_from find placed s changed (Act o a x) =
    let st = find false placed s in
    let here = node st (Do a (length placed + 1)) in
    here ∷ row_from find (placed ++ here ∷ []) st true x

pub laid_row : (f : Finder) (x : Paths) (placed : List Node) (s : ℕ) (b : Bool) → laid_from f placed s b x ≡ placed ++ row_from f placed s b x
unfolding laid_from row_from
laid_row f (Stop o) placed s b = refl
laid_row f (Apply o n x) placed s b =
    let st = f true placed (table_from s b) in
    let here = node st (Look n (length placed + 1)) in
    laid_row f x (placed ++ here ∷ []) st true ∙ push_more placed here (row_from f (placed ++ here ∷ []) st true x)
laid_row f (Branch o c x y) placed s b =
    let st = f false placed s in
    let b2 = still_changed b s st in
    let here = node st (Ask c (length placed + 1) (length placed + 1 + size x)) in
    let first = laid_from f (placed ++ here ∷ []) st b2 x in
    let xs = row_from f (placed ++ here ∷ []) st b2 x in
    let ys = row_from f first st b2 y in
    laid_row f y first st b2 ∙ ap (λ (z : List Node). z ++ ys) (laid_row f x (placed ++ here ∷ []) st b2 ∙ push_more placed here xs) ∙ append_assoc placed (here ∷ xs) ys
laid_row f (Act o a x) placed s b =
    let st = f false placed s in
    let here = node st (Do a (length placed + 1)) in
    laid_row f x (placed ++ here ∷ []) st true ∙ push_more placed here (row_from f (placed ++ here ∷ []) st true x)

pub row_length : (f : Finder) (x : Paths) (placed : List Node) (s : ℕ) (b : Bool) → length (row_from f placed s b x) ≡ size x
unfolding row_from size
row_length f (Stop o) placed s b = refl
row_length f (Apply o n x) placed s b = ap suc (row_length f x _ _ _)
row_length f (Branch o c x y) placed s b =
    let st = f false placed s in
    let b2 = still_changed b s st in
    let here = node st (Ask c (length placed + 1) (length placed + 1 + size x)) in
    let first = laid_from f (placed ++ here ∷ []) st b2 x in
    let h = row_length f x (placed ++ here ∷ []) st b2 in
    let g = row_length f y first st b2 in
    let e = length-append (row_from f (placed ++ here ∷ []) st b2 x) (row_from f first st b2 y) in
    omega arith
row_length f (Act o a x) placed s b = ap suc (row_length f x _ _ _)

pub laid_length : (f : Finder) (x : Paths) (placed : List Node) (s : ℕ) (b : Bool) → length (laid_from f placed s b x) ≡ length placed + size x
laid_length f x placed s b = ap length (laid_row f x placed s b) ∙ length-append placed (row_from f placed s b x) ∙ ap (λ (z : ℕ). length placed + z) (row_length f x placed s b)
