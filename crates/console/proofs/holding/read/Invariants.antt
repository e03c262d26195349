-- An interrupted read takes nothing from the input, and where it reads to keeps its length.
use Rattle.std.proofs.Common.{◌≡◌, length}
use Rattle.std.specs.Io.KnownBytes.{Keeps}
use Rattle.console.proofs.holding.read.Given as goal

abbrev pub invariant-loop : goal.invariant-loop
invariant-loop g l = (length l.to ≡ length l.initial.to) × Keeps (g.R.Read.remaining l.initial.input) (g.R.Read.remaining l.input)
