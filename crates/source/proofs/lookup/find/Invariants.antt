use Rattle.std.proofs.Common.{◌≡◌, drop}
use Rattle.source.specs.Names.{find, entries_of}
use Rattle.source.proofs.lookup.find.Given as goal

-- none of the names before is the word
abbrev pub invariant-loop-entry : goal.invariant-loop-entry
invariant-loop-entry g l = find (entries_of (drop l.entry-index l.names)) l.word ≡ find (entries_of l.names) l.word
