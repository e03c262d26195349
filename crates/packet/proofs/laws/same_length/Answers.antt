use Rattle.packet.proofs.Lengths.{same_length}
use Rattle.packet.proofs.laws.same_length.Goals as goal

pub returns : goal.returns
returns c = same_length
