use Rattle.frames.proofs.Advances.{advancing}
use Rattle.frames.proofs.laws.advancing_stands.Goals as goal

pub returns : goal.returns
returns c = advancing
