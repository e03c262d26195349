use Rattle.std.proofs.Common.{◌≡◌, ◌++◌, take, vec_items}
use Rattle.table.specs.Stands.{edits_of}
use Rattle.encoding.specs.Encoded.{edits_bytes}
use Rattle.encoding.proofs.encoding.write.Given as goal

-- so many of them are written
abbrev pub invariant-loop-one : goal.invariant-loop-one
invariant-loop-one l = vec_items l.out ≡ vec_items l.initial.out ++ edits_bytes (edits_of (take l.one-index l.edits))
