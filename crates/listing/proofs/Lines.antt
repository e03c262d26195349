-- The loop over the nodes: one line more.
use Rattle.std.proofs.Common.{◌≡◌, ℕ, ◌+◌, ◌<◌, ◌≤◌, List, ◌∷◌, ◌++◌, length, get_or, drop, sym, ap, ◌∙◌}
use Rattle.std.proofs.lemmas.List.{append-nil, append_assoc, drop_more, drop_all}
use Rattle.program.specs.Stands.{node_of, nodes_of}
use Rattle.program.specs.declared.node.Node.{Node}
use Rattle.listing.specs.Listing.{Names, line_of, listed}

pub listed_more : (names : Names) (ns : List Node) (i : ℕ) (n : Node) (text line pushed : List ℕ) → i < length ns → n ≡ get_or ns i n →
    pushed ≡ text ++ line → line ≡ line_of names i (node_of n) →
    pushed ++ listed names (i + 1) (nodes_of (drop (i + 1) ns)) ≡ text ++ listed names i (nodes_of (drop i ns))
unfolding listed
listed_more names ns i n text line pushed h is p l =
    ap (λ (t : List ℕ). t ++ listed names (i + 1) (nodes_of (drop (i + 1) ns))) (p ∙ ap (λ (m : List ℕ). text ++ m) l)
    ∙ append_assoc text (line_of names i (node_of n)) (listed names (i + 1) (nodes_of (drop (i + 1) ns)))
    ∙ ap (λ (rest : List Node). text ++ listed names i (nodes_of rest)) (sym (drop_more ns i n h ∙ ap (λ (x : Node). x ∷ drop (i + 1) ns) (sym is)))

pub listed_end : (names : Names) (ns : List Node) (i : ℕ) (text : List ℕ) → length ns ≤ i → text ≡ text ++ listed names i (nodes_of (drop i ns))
unfolding listed
listed_end names ns i text h = sym (ap (λ (rest : List Node). text ++ listed names i (nodes_of rest)) (drop_all i ns h) ∙ append-nil text)
