use Rattle.std.proofs.Common.{◌≡◌, ℕ, List, length, vec_items, Option, ap, ◌∙◌}
use Rattle.std.specs.List.{position}
use Rattle.std.specs.Option.{unwrap_or}
use Rattle.program.specs.Stands.{FieldNo}
use Rattle.table.proofs.Fitting.{agree, chosen_is}
use Rattle.table.proofs.lookup.chosen.Goals as goal

pub returns-clause-index : goal.returns-clause-index
returns-clause-index c base =
    let found : c.first_fit.result ≡ position (agree (vec_items c.args.table.now.looks) c.args.fields.now.of) c.args.entries.now =
    c.first_fit.ensures ∙ ap (λ (fs : List FieldNo). position (agree fs c.args.fields.now.of) c.args.entries.now) c.deref.ensures.value in
    ap (λ (r : Option ℕ). unwrap_or r (length c.args.entries.now)) found ∙ chosen_is c.args.table.now c.args.entries.now c.args.fields.now base
