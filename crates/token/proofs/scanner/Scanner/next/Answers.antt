use Rattle.std.proofs.Common.{sym, ◌∙◌}
use Rattle.token.specs.Stands.{lead_of}
use Rattle.token.proofs.Cuts.{token_taken}
use Rattle.token.proofs.scanner.Scanner.next.Goals as goal

pub returns : goal.returns
returns c =
    sym c.skip.ensures.same
    ∙ token_taken c.skip.new.self.at (lead_of c.lead-lead.result) c.skip.new.self.rest.now c.skip.ensures.none c.lead-lead.ensures.value c.lead-lead.ensures.within
