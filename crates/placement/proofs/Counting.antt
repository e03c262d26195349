-- The nodes and the tables of a stage, counted as the library counts.
use Rattle.std.proofs.Common.{◌≡◌, ℕ, ◌+◌, Bool, true, false, cond, not, ◌&&◌, ◌==◌, List, refl, arith}
use Rattle.std.specs.List.{count_by}
use Rattle.std.proofs.lemmas.List.Recursion.{is_count_by}
use Rattle.model.specs.Node.{halts, looks}
use Rattle.model.specs.Placement.{nodes_on, tables_on}
use Rattle.program.specs.declared.node.Node.{Node}
use Rattle.program.specs.Stands.{does_of, nodes_of}

one_more : (b : Bool) (n : ℕ) → cond b 1 0 + n ≡ cond b (1 + n) n
one_more true n = refl
one_more false n = omega arith

pub nodes_counted : (s : ℕ) (ns : List Node) → nodes_on s (nodes_of ns) ≡ count_by (λ (n : Node). n.stage == s && not (halts (does_of n.does))) ns
unfolding nodes_on
nodes_counted s ns =
    is_count_by (λ (l : List Node). nodes_on s (nodes_of l)) (λ (n : Node). n.stage == s && not (halts (does_of n.does))) refl
    (λ n l. one_more (n.stage == s && not (halts (does_of n.does))) (nodes_on s (nodes_of l))) ns

pub tables_counted : (s : ℕ) (ns : List Node) → tables_on s (nodes_of ns) ≡ count_by (λ (n : Node). n.stage == s && looks (does_of n.does)) ns
unfolding tables_on
tables_counted s ns =
    is_count_by (λ (l : List Node). tables_on s (nodes_of l)) (λ (n : Node). n.stage == s && looks (does_of n.does)) refl
    (λ n l. one_more (n.stage == s && looks (does_of n.does)) (tables_on s (nodes_of l))) ns
