use Rattle.packet.proofs.Chains.{refusals}
use Rattle.packet.proofs.laws.refusals.Goals as goal

pub returns : goal.returns
returns c = refusals
