use Rattle.model.proofs.as_meant.Goals as goal
use Rattle.model.proofs.Meant.{as_meant}

pub returns : goal.returns
returns c = as_meant
