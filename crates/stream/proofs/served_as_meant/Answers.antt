use Rattle.stream.proofs.AsMeant.{served_as_meant}
use Rattle.stream.proofs.served_as_meant.Goals as goal

pub returns : goal.returns
returns c = served_as_meant
