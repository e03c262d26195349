use Rattle.model.proofs.alone.Goals as goal
use Rattle.model.proofs.Undisturbed.{alone}

pub returns : goal.returns
returns c = alone
