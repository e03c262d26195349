-- With limits no stage ever holds more nodes, or more tables, than it may.
use Rattle.std.proofs.Common.{◌≡◌, ℕ, zero, ◌+◌, ◌<◌, ◌≤◌, Bool, true, false, cond, not, ◌&&◌, eqb, List, [], ◌∷◌, ◌++◌, length, sym, refl, ◌∙◌, subst, arith}
use Rattle.std.proofs.lemmas.Bool.{cond_both, eqb-true, and_parts}
use Rattle.model.specs.Paths.{Paths, Stop, Apply, Branch, Act}
use Rattle.model.specs.Node.{Node, Does, Halt, Look, Ask, Do, node, halts, looks}
use Rattle.model.specs.Placement.{nodes_on, tables_on, most_nodes, most_tables, has_room, limited, size, table_from, laid_from, rule}
use Rattle.model.proofs.Rows.{node_here, table_here, nodes_one_more, tables_one_more}
use Rattle.model.proofs.Room.{room_parts, first_room}

-- no stage of the row holds too much
abbrev pub Fits : List Node → Type 0
Fits placed = (s : ℕ) → (nodes_on s placed ≤ most_nodes) × (tables_on s placed ≤ most_tables)

one_more : (table : Bool) (placed : List Node) (st : ℕ) (d : Does) → looks d ≡ table → has_room table placed st ≡ true → Fits placed → Fits (placed ++ node st d ∷ [])
one_more table placed st d q h fits s =
    let p = room_parts table placed st h in
    let a = nodes_one_more s placed (node st d) in
    let b = tables_one_more s placed (node st d) in
    let c : nodes_on s placed + node_here s (node st d) ≤ most_nodes =
    cond_both (eqb st s && not (halts d)) 1 0 (λ (z : ℕ). nodes_on s placed + z ≤ most_nodes)
    (λ e. let i = eqb-true st s (and_parts (eqb st s) (not (halts d)) e).0 in
    let l = subst (λ (z : ℕ). nodes_on z placed < most_nodes) i p.0 in omega arith)
    (λ e. omega (arith, (fits s).0)) in
    let g : tables_on s placed + table_here s (node st d) ≤ most_tables =
    cond_both (eqb st s && looks d) 1 0 (λ (z : ℕ). tables_on s placed + z ≤ most_tables)
    (λ e. let v = and_parts (eqb st s) (looks d) e in
    let i = eqb-true st s v.0 in
    let l = subst (λ (z : ℕ). tables_on z placed < most_tables) i (p.1 (sym q ∙ v.1)) in omega arith)
    (λ e. omega (arith, (fits s).1)) in
    (omega arith, omega arith)

halt_more : (placed : List Node) → Fits placed → Fits (placed ++ node 0 Halt ∷ [])
halt_more placed fits s =
    let a = nodes_one_more s placed (node 0 Halt) in
    let b = tables_one_more s placed (node 0 Halt) in
    let c : node_here s (node 0 Halt) ≡ 0 = nothing (eqb 0 s) in
    let g : table_here s (node 0 Halt) ≡ 0 = nothing (eqb 0 s) in
    (omega (arith, (fits s).0), omega (arith, (fits s).1))
  where
    nothing : (b : Bool) → cond (b && false) 1 0 ≡ zero
    nothing true = refl
    nothing false = refl

limited_fits : (x : Paths) (placed : List Node) (s : ℕ) (b : Bool) → Fits placed → Fits (laid_from limited placed s b x)
unfolding laid_from
limited_fits (Stop o) placed s b fits = halt_more placed fits
limited_fits (Apply o n x) placed s b fits =
    limited_fits x _ _ true (one_more true placed _ (Look n (length placed + 1)) refl (first_room true placed (table_from s b)).room fits)
limited_fits (Branch o c x y) placed s b fits =
    limited_fits y _ _ _ (limited_fits x _ _ _ (one_more false placed _ (Ask c (length placed + 1) (length placed + 1 + size x)) refl (first_room false placed s).room fits))
limited_fits (Act o a x) placed s b fits =
    limited_fits x _ _ true (one_more false placed _ (Do a (length placed + 1)) refl (first_room false placed s).room fits)

nothing_fits : Fits []
unfolding nodes_on tables_on
nothing_fits s = omega arith

pub rule_fits : (x : Paths) → Fits (rule x)
rule_fits x = limited_fits x [] 0 false nothing_fits
