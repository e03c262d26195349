use Rattle.std.proofs.Common.{◌≡◌, drop}
use Rattle.source.specs.Names.{only_behind, only, fields_of, number_of}
use Rattle.source.proofs.lookup.only.Given as goal

-- what was found and the fields that are left give what all fields give
abbrev pub invariant-loop-entry : goal.invariant-loop-entry
invariant-loop-entry l = only_behind (number_of l.found) (fields_of (drop l.entry-index l.fields)) l.word ≡ only (fields_of l.fields) l.word
