use Rattle.frames.proofs.Lasts.{lasting}
use Rattle.frames.proofs.laws.lasting_stands.Goals as goal

pub returns : goal.returns
returns c = lasting
