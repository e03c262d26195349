use Rattle.model.proofs.two_versions_suffice.Goals as goal
use Rattle.model.proofs.TwoSuffice.{two_suffice}

pub returns : goal.returns
returns c = two_suffice
