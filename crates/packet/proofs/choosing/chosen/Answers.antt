use Rattle.std.proofs.Common.{sym, ap, ◌∙◌}
use Rattle.packet.specs.Stands.{next_of}
use Rattle.packet.proofs.Reading.{says, chosen_found}
use Rattle.packet.proofs.choosing.chosen.Goals as goal

pub returns-in_err-first : goal.returns-in_err-first
returns-in_err-first c = ap next_of c.from_residual.ensures ∙ ap says (sym c.in_err-first.was ∙ c.first.ensures) ∙ sym (chosen_found c.args.choices.now c.args.value)

pub returns : goal.returns
returns c = ap says (sym c.in_ok-first.was ∙ c.first.ensures) ∙ sym (chosen_found c.args.choices.now c.args.value)
