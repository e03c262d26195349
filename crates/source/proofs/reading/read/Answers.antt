use Rattle.std.proofs.Common.{sym, ◌∙◌, inl, inr}
use Rattle.std.proofs.lemmas.Result.{err_from_is_err_and}
use Rattle.token.specs.Stands.{token_of}
use Rattle.token.specs.Tokens.{tokens_from}
use Rattle.source.specs.Stands.{seen_of, phase_of}
use Rattle.source.proofs.Runs.{goes_on, ends_here, stops_here}
use Rattle.source.proofs.reading.read.Goals as goal

pub returns-in_err-phase : goal.returns-in_err-phase
returns-in_err-phase c =
    let p = err_from_is_err_and c.from_residual.result c.from_residual.ensures.1 in
    rw (p.1, p.2) (elim c.in_err-phase.ensures [
      | inl m ↦ inl m
      | inr q ↦ inr (sym c.loop-seen.invariant ∙ stops_here (phase_of c.loop-seen.phase) (seen_of c.loop-seen.seen) (token_of c.next-x.result)
          (tokens_from c.loop-seen.scanner.at c.loop-seen.scanner.rest.now) (tokens_from c.next-x.new.self.at c.next-x.new.self.rest.now)
          c.in_err-phase.field-0.0 c.next-x.ensures q)
    ])

pub returns-then-is_end : goal.returns-then-is_end
returns-then-is_end c =
    sym c.loop-seen.invariant
    ∙ ends_here (phase_of c.loop-seen.phase) (phase_of c.in_ok-phase.phase) (seen_of c.loop-seen.seen) (seen_of c.step.new.self) (token_of c.next-x.result)
    (tokens_from c.loop-seen.scanner.at c.loop-seen.scanner.rest.now) (tokens_from c.next-x.new.self.at c.next-x.new.self.rest.now)
    c.next-x.ensures c.in_ok-phase.ensures (sym c.if-is_end.ensures)

pub loop-seen-preserved : goal.loop-seen-preserved
loop-seen-preserved c =
    goes_on (phase_of c.loop-seen.phase) (phase_of c.in_ok-phase.phase) (seen_of c.loop-seen.seen) (seen_of c.step.new.self) (token_of c.next-x.result)
    (tokens_from c.loop-seen.scanner.at c.loop-seen.scanner.rest.now) (tokens_from c.next-x.new.self.at c.next-x.new.self.rest.now)
    c.next-x.ensures c.in_ok-phase.ensures (sym c.if-is_end.ensures)
    ∙ c.loop-seen.invariant
