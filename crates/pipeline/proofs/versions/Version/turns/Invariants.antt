use Rattle.std.proofs.Common.{◌≡◌, ◌-◌, length, vec_items}
use Rattle.model.specs.Packet.{Packet}
use Rattle.model.specs.Stage.{on_stage}
use Rattle.program.specs.Stands.{over}
use Rattle.pipeline.specs.Stands.{version_at, transit}
use Rattle.pipeline.proofs.versions.Version.turns.Given as goal

-- what is left of the turns makes of the packet now what all make of it as it came
abbrev pub invariant-loop-turn : goal.invariant-loop-turn
invariant-loop-turn l = (base : Packet) →
    on_stage (length (vec_items l.self.loaded.now.nodes) - l._turn) (version_at l.self) l.stage (over l.seen base) (transit (over l.fields base) l.at)
    ≡ on_stage (length (vec_items l.self.loaded.now.nodes)) (version_at l.self) l.stage (over l.seen base) (transit (over l.initial.fields base) l.initial.at)
