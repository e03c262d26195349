use Rattle.std.proofs.Common.{◌≡◌, None, sym, ap, ◌∙◌}
use Rattle.std.specs.Option.{option_copied}
use Rattle.packet.specs.Stands.{fields_of}
use Rattle.packet.proofs.Reading.{chosen_none}
use Rattle.packet.proofs.choosing.behind.Goals as goal

pub returns-in_err-after : goal.returns-in_err-after
returns-in_err-after c =
    let none : c.args.header.now.after ≡ None = sym c.as_ref.ensures.value ∙ ap (λ o. option_copied o) c.in_err-after.was in
    rw (c.from_residual.ensures, none) (sym (chosen_none (fields_of c.args.fields.now 0)))
