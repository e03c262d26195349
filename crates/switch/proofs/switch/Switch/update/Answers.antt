use Rattle.std.proofs.Common.{refl, inl, arith}
use Rattle.stream.specs.Frames.{Update}
use Rattle.switch.proofs.switch.Switch.update.Goals as goal

pub returns-in-Unloaded : goal.returns-in-Unloaded
returns-in-Unloaded c =
    rw c.in-Unloaded.is (record { does = (Update c.args.body.now, inl refl, c.tell.ensures.writes, refl); small = omega (arith, c.tell.ensures.count) })
