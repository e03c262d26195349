use Rattle.listing.proofs.laws.never_alike_stands.Goals as goal
use Rattle.listing.proofs.NeverAlike.{never_alike}

pub returns : goal.returns
returns c = never_alike
