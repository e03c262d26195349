use Rattle.std.proofs.Common.{◌≡◌, ◌+◌, length}
use Rattle.token.specs.Tokens.{tokens_from}
use Rattle.token.proofs.scanner.Scanner.skip.Given as goal

abbrev pub invariant-loop-width : goal.invariant-loop-width
invariant-loop-width l = (l.at + length l.rest ≡ l.initial.at + length l.initial.rest) × (tokens_from l.at l.rest ≡ tokens_from l.initial.at l.initial.rest)

abbrev pub decreases-loop-width : goal.decreases-loop-width
decreases-loop-width l = length l.rest
