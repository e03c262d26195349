use Rattle.std.proofs.Common.{◌≡◌, ℕ, ◌+◌, ◌-◌, ◌<◌, length, vec_items, sym, ap, ◌∙◌, arith}
use Rattle.model.specs.Stage.{on_stage}
use Rattle.program.specs.Stands.{over, node_of}
use Rattle.pipeline.specs.Stands.{version_at, transit}
use Rattle.pipeline.proofs.Turns.{turn_goes, turn_ends, turns_over}
use Rattle.pipeline.proofs.versions.Version.turns.Goals as goal

pub returns-then-not-works_on : goal.returns-then-not-works_on
returns-then-not-works_on c base =
    sym (turn_ends (length (vec_items c.args.self.loaded.now.nodes) - c.loop-turn._turn) (version_at c.args.self) c.args.stage
    (over c.args.fields.now base) (transit (over c.loop-turn.fields base) c.loop-turn.at) (node_of c.node_at-node.result) (sym c.node_at-node.ensures) (sym c.if-not-works_on.ensures))
    ∙ c.loop-turn.invariant base

pub loop-turn-preserved : goal.loop-turn-preserved
loop-turn-preserved c base =
    let left : ℕ = length (vec_items c.args.self.loaded.now.nodes) - c.loop-turn._turn in
    let some : 0 < length (vec_items c.args.self.loaded.now.nodes) - c.loop-turn._turn = omega (arith, c.loop-turn-test.true, c.len-turn-end.ensures, c.args.self.loaded.now.nodes.ok.0) in
    let less : length (vec_items c.args.self.loaded.now.nodes) - (c.loop-turn._turn + 1) ≡ length (vec_items c.args.self.loaded.now.nodes) - c.loop-turn._turn - 1 = omega arith in
    ap (λ (n : ℕ). on_stage n (version_at c.args.self) c.args.stage (over c.args.fields.now base) (transit (over c.go-at.new.fields base) c.go-at.result)) less
    ∙ ap (on_stage (length (vec_items c.args.self.loaded.now.nodes) - c.loop-turn._turn - 1) (version_at c.args.self) c.args.stage (over c.args.fields.now base)) (c.go-at.ensures base)
    ∙ sym (turn_goes (length (vec_items c.args.self.loaded.now.nodes) - c.loop-turn._turn) (version_at c.args.self) c.args.stage
    (over c.args.fields.now base) (transit (over c.loop-turn.fields base) c.loop-turn.at) (node_of c.node_at-node.result) (sym c.node_at-node.ensures) (sym c.if-not-works_on.ensures) some)
    ∙ c.loop-turn.invariant base

pub returns : goal.returns
returns c base =
    let none : length (vec_items c.args.self.loaded.now.nodes) - c.loop-turn._turn ≡ 0 = omega (arith, c.loop-turn-test.false, c.len-turn-end.ensures, c.args.self.loaded.now.nodes.ok.0) in
    sym (turns_over (version_at c.args.self) c.args.stage (over c.args.fields.now base) (transit (over c.loop-turn.fields base) c.loop-turn.at))
    ∙ ap (λ (n : ℕ). on_stage n (version_at c.args.self) c.args.stage (over c.args.fields.now base) (transit (over c.loop-turn.fields base) c.loop-turn.at)) (sym none)
    ∙ c.loop-turn.invariant base
