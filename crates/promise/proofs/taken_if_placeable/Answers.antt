use Rattle.promise.proofs.Accepts.{taken_if_placeable}
use Rattle.promise.proofs.taken_if_placeable.Goals as goal

pub returns : goal.returns
returns c = taken_if_placeable
