use Rattle.packet.proofs.Owning.{each_bit_once}
use Rattle.packet.proofs.laws.each_bit_once.Goals as goal

pub returns : goal.returns
returns c = each_bit_once
