use Rattle.std.proofs.Common.{◌≡◌, ◌++◌, take, vec_items}
use Rattle.table.specs.Stands.{entries_of}
use Rattle.encoding.specs.Encoded.{entries_bytes}
use Rattle.encoding.proofs.entry.entries.Given as goal

-- so many of them are written
abbrev pub invariant-loop-one : goal.invariant-loop-one
invariant-loop-one l = vec_items l.out ≡ vec_items l.initial.out ++ entries_bytes (entries_of (take l.one-index l.entries))
