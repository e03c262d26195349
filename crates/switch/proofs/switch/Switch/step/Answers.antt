use Rattle.switch.specs.Stands.{mode_of}
use Rattle.switch.proofs.Steps.{wider}
use Rattle.switch.proofs.switch.Switch.step.Goals as goal

pub returns-clause-does : goal.returns-clause-does
returns-clause-does c =
    let h = c.in-Some.ensures.cases in
    wider (mode_of c.args.self.now.state) (mode_of c.front.new.self.state) c.args.bytes.now c.args.out.now c.in-Some.room.now c.in-Some._rest.now c.front.new.out 4102 c.front.result.used c.front.result.written h.0 h.1 c.front.ensures.written c.front.ensures.does
