use Rattle.std.proofs.Common.{Option, ℕ, ap, ◌∙◌}
use Rattle.std.specs.Option.{option_or}
use Rattle.token.specs.Tokens.{Word, decimal, hexadecimal}
use Rattle.token.specs.Stands.{capped}
use Rattle.token.proofs.Values.{number_either}
use Rattle.token.proofs.lead.run.Goals as goal

pub returns-in-Some : goal.returns-in-Some
returns-in-Some c =
    let w = c.args.bytes.now in
    c.number.ensures (Word w)
    ∙ number_either c.in-Some.n (decimal w) (hexadecimal w) (Word w)
    (c.in-Some.ensures ∙ (ap (λ (o : Option ℕ). option_or o c.hexadecimal.result) c.value.ensures ∙ ap (option_or (capped (decimal w))) c.hexadecimal.ensures))
