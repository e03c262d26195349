use Rattle.model.proofs.updates.Goals as goal
use Rattle.model.proofs.UpdatesTaken.{updates}

pub returns : goal.returns
returns c = updates
