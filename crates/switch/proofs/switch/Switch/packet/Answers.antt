use Rattle.switch.proofs.switch.Switch.packet.Goals as goal

pub returns-in-Running-clause-next : goal.returns-in-Running-clause-next
returns-in-Running-clause-next c = rw c.in-Running.is c.packet.ensures.next
