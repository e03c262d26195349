use Rattle.std.proofs.Common.{◌≤◌, sym, ◌∙◌, arith}
use Rattle.std.proofs.lemmas.Bool.{le-ltb, ltb-true}
use Rattle.packet.proofs.Presences.{no_bit}
use Rattle.packet.proofs.presence.has.Goals as goal

pub returns-else-number-lt-MOST : goal.returns-else-number-lt-MOST
returns-else-number-lt-MOST c =
    let past : 8 ≤ c.args.number = omega (arith, c.if-number-lt-MOST.false) in
    record {
      value = le-ltb c.args.number 8 past ∙ sym (no_bit c.args.present c.args.number (omega arith) past);
      within = λ e. ltb-true c.args.number 8 e;
    }
