use Rattle.std.proofs.Common.{◌≡◌, ◌++◌, take, vec_items}
use Rattle.table.specs.Stands.{patterns_of}
use Rattle.encoding.specs.Encoded.{patterns_bytes}
use Rattle.encoding.proofs.entry.patterns.Given as goal

-- so many of them are written
abbrev pub invariant-loop-one : goal.invariant-loop-one
invariant-loop-one l = vec_items l.out ≡ vec_items l.initial.out ++ patterns_bytes (patterns_of (take l.one-index l.patterns))
