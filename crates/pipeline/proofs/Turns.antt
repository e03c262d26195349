-- The turns of the loop on a stage.
use Rattle.std.proofs.Common.{◌≡◌, ℕ, zero, suc, ◌-◌, ◌<◌, ◌≤◌, true, false, List, length, get_or, sym, refl, ap, ◌∙◌, arith}
use Rattle.std.proofs.lemmas.List.{get_or-map, get_or_past, length-map}
use Rattle.model.specs.Packet.{Packet}
use Rattle.model.specs.Node as model
use Rattle.model.specs.Version.{Version}
use Rattle.model.specs.Stage.{Transit, moved, works_on, on_stage}
use Rattle.program.specs.Stands.{node_of, nodes_of}
use Rattle.program.specs.declared.node.Node.{Node}

-- the node at an index of the code's row
pub node_at_lem : (ns : List Node) (i : ℕ) (n : Node) → i < length ns → n ≡ get_or ns i n → model.node_at (nodes_of ns) i ≡ node_of n
node_at_lem ns i n h is = get_or-map node_of ns i n model.halt h ∙ ap node_of (sym is)

pub past_end : (ns : List Node) (i : ℕ) → length ns ≤ i → model.node_at (nodes_of ns) i ≡ model.halt
past_end ns i h = get_or_past (nodes_of ns) i model.halt (rw length-map h)

-- a node of this stage is done
pub turn_goes : (turns : ℕ) (v : Version) (s : ℕ) (seen : Packet) (u : Transit) (n : model.Node) → model.node_at v.nodes u.at ≡ n → works_on s n ≡ true → 0 < turns →
    on_stage turns v s seen u ≡ on_stage (turns - 1) v s seen (moved v seen n.does u)
unfolding on_stage
turn_goes zero v s seen u n is w h = absurd (omega arith)
turn_goes (suc turns) v s seen u n is w h =
    let less : suc turns - 1 ≡ turns = omega arith in
    rw (is, w, less) refl

-- any other is left
pub turn_ends : (turns : ℕ) (v : Version) (s : ℕ) (seen : Packet) (u : Transit) (n : model.Node) → model.node_at v.nodes u.at ≡ n → works_on s n ≡ false → on_stage turns v s seen u ≡ u
unfolding on_stage
turn_ends zero v s seen u n is w = refl
turn_ends (suc turns) v s seen u n is w = rw (is, w) refl

pub turns_over : (v : Version) (s : ℕ) (seen : Packet) (u : Transit) → on_stage 0 v s seen u ≡ u
unfolding on_stage
turns_over v s seen u = refl
