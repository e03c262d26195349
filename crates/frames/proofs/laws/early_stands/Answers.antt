use Rattle.frames.proofs.Advances.{early}
use Rattle.frames.proofs.laws.early_stands.Goals as goal

pub returns : goal.returns
returns c = early
