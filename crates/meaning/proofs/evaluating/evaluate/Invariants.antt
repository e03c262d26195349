use Rattle.std.proofs.Common.{◌≡◌, ℕ, ◌-◌, true, length}
use Rattle.model.specs.Meaning.{means}
use Rattle.model.specs.Packet.{Packet}
use Rattle.model.specs.Statements.{paths_at, program_of}
use Rattle.program.specs.Stands.{over, declarations_of, statements_of}
use Rattle.table.specs.Stands.{tables_of}
use Rattle.meaning.proofs.evaluating.evaluate.Given as goal

-- what is left of the program makes of the fields what all of it makes of the fields that came
abbrev pub invariant-loop-at : goal.invariant-loop-at
invariant-loop-at l =
    (base : Packet) (end : ℕ) →
    means (declarations_of l.declarations) (paths_at end (statements_of l.statements) l.at) (tables_of l.tables true) (over l.fields base)
    ≡ means (declarations_of l.declarations) (program_of end (statements_of l.statements)) (tables_of l.tables true) (over l.initial.fields base)

abbrev pub decreases-loop-at : goal.decreases-loop-at
decreases-loop-at l = length l.statements - l.at
