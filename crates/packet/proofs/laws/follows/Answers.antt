use Rattle.packet.proofs.Chains.{follows}
use Rattle.packet.proofs.laws.follows.Goals as goal

pub returns : goal.returns
returns c = follows
