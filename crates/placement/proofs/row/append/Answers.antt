use Rattle.std.proofs.Common.{◌≡◌, ◌+◌, ◌<◌, ◌≤◌, List, [], ◌∷◌, ◌++◌, length, vec_items, ap, ◌∙◌, arith}
use Rattle.std.proofs.lemmas.List.{map_push}
use Rattle.model.specs.Node as node
use Rattle.model.specs.Stopping.{Lowest, noted}
use Rattle.program.specs.declared.node.Node.{Node}
use Rattle.program.specs.Stands.{node_of, nodes_of}
use Rattle.placement.specs.declared.branch.Point.{Point}
use Rattle.placement.specs.declared.step.Step.{Step}
use Rattle.placement.specs.Offsets.{lowest_of}
use Rattle.placement.specs.Rows.{Appended, node_for}
use Rattle.placement.proofs.row.append.Goals as goal

appended : (row seen : List Node) (w : Lowest) (step : Step) (p : Point) (n : Node) (all : List Node) (v : Lowest) → length row < 512 → n.stage ≤ length row + 1 →
    seen ≡ row → node_of n ≡ node_for seen p.stage p.changed step.kind → all ≡ row ++ n ∷ [] → v ≡ noted 12 w (node_of n) step.offset → Appended row w step p n.stage all v
appended row seen w step p n all v fits low same is_seen pushed is_noted =
    let is-node = is_seen ∙ ap (λ (z : List Node). node_for z p.stage p.changed step.kind) same in
    record {
      fits = fits;
      is_stage = ap (λ (z : node.Node). z.stage) is-node;
      low = low;
      is_row = ap nodes_of pushed ∙ map_push node_of row n ∙ ap {B = List node.Node} (λ (z : node.Node). nodes_of row ++ z ∷ []) is-node;
      is_noted = is_noted ∙ ap (λ (z : node.Node). noted 12 w z step.offset) is-node;
    }

pub returns : goal.returns
returns c =
    let same = c.args.row.now.ok.0 in
    let pushed = c.in_ok-push_within.ensures in
    appended (vec_items c.args.row.now) c.deref.result.now (lowest_of c.args.noted.now) c.args.step c.args.point c.node_for-node.result
    (vec_items c.push_within.new.row) (lowest_of c.noted_with.result) (omega (arith, pushed.0)) (omega (arith, c.node_for-node.ensures.low, c.deref.ensures.len))
    c.deref.ensures.value c.node_for-node.ensures.node pushed.1 c.noted_with.ensures
