use Rattle.std.proofs.Common.{◌≡◌, length}
use Rattle.token.specs.Tokens.{tokens_from}
use Rattle.source.specs.Reading.{run, read_source}
use Rattle.source.specs.Stands.{seen_of, phase_of}
use Rattle.source.proofs.reading.read.Given as goal

-- the tokens that are left make of what was read what all tokens make of nothing
abbrev pub invariant-loop-seen : goal.invariant-loop-seen
invariant-loop-seen l = run (phase_of l.phase) (seen_of l.seen) (tokens_from l.scanner.at l.scanner.rest.now) ≡ read_source l.source

abbrev pub decreases-loop-seen : goal.decreases-loop-seen
decreases-loop-seen l = length (tokens_from l.scanner.at l.scanner.rest.now)
