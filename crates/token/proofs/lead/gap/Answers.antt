use Rattle.std.proofs.Common.{◌≡◌, ◌∙◌, rules}
use Rattle.token.specs.Tokens.{Line, front}
use Rattle.token.proofs.Stretches.{front_line}
use Rattle.token.proofs.lead.gap.Goals as goal

pub returns-in-47-clause-value : goal.returns-in-47-clause-value
returns-in-47-clause-value c = let e : c.line.result ≡ front Line c.args.bytes.now = c.line.ensures.value ∙ front_line c.args.bytes.now in search rules
