use Rattle.packet.proofs.Standing.{stands_written}
use Rattle.packet.proofs.laws.stands_written.Goals as goal

pub returns : goal.returns
returns c = stands_written
