use Rattle.std.proofs.Common.{◌≡◌, ◌++◌, take, vec_items}
use Rattle.table.specs.Stands.{actions_of}
use Rattle.encoding.specs.Encoded.{actions_bytes}
use Rattle.encoding.proofs.entry.actions.Given as goal

-- so many of them are written
abbrev pub invariant-loop-one : goal.invariant-loop-one
invariant-loop-one l = vec_items l.out ≡ vec_items l.initial.out ++ actions_bytes (actions_of (take l.one-index l.one-items))
