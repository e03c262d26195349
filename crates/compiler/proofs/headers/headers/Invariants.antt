use Rattle.std.proofs.Common.{◌≡◌, ◌-◌, ◌++◌, map, vec_items, vec_len}
use Rattle.packet.specs.Stands.{header_of}
use Rattle.source.specs.Stands.{seen_of}
use Rattle.compiler.specs.Packaging.{headers_from}
use Rattle.compiler.proofs.headers.headers.Given as goal

-- the headers so far, and those still to come, are all
abbrev pub invariant-loop-number : goal.invariant-loop-number
invariant-loop-number l =
    map header_of (vec_items l.all) ++ headers_from (seen_of l.limited.seen) l.number (vec_len l.limited.seen.names.headers - l.number)
    ≡ headers_from (seen_of l.limited.seen) 0 (vec_len l.limited.seen.names.headers)
