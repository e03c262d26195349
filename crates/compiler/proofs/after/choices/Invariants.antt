use Rattle.std.proofs.Common.{◌≡◌, ◌++◌, drop, vec_items}
use Rattle.packet.specs.Stands.{choices_of as choices_in}
use Rattle.source.specs.Names.{entries_of}
use Rattle.source.specs.Stands.{choices_of as choices_seen}
use Rattle.compiler.specs.Packaging.{choices_of}
use Rattle.compiler.proofs.after.choices.Given as goal

-- those that were found, and those still to be found, are all
abbrev pub invariant-loop-choice : goal.invariant-loop-choice
invariant-loop-choice l =
    choices_in (vec_items l.choices) ++ choices_of (entries_of l.headers) l.number (choices_seen (drop l.choice-index l.chosen))
    ≡ choices_of (entries_of l.headers) l.number (choices_seen l.chosen)
