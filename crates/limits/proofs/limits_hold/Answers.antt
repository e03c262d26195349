use Rattle.limits.proofs.Holding.{limits_hold}
use Rattle.limits.proofs.limits_hold.Goals as goal

pub returns : goal.returns
returns c = limits_hold
