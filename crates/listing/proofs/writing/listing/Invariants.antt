use Rattle.std.proofs.Common.{◌≡◌, ◌++◌, drop, string_bytes}
use Rattle.program.specs.Stands.{nodes_of}
use Rattle.listing.specs.Stands.{names_of}
use Rattle.listing.specs.Listing.{listed}
use Rattle.listing.proofs.writing.listing.Given as goal

-- the lines so far, and those of the nodes that are left, are all lines
abbrev pub invariant-loop-at : goal.invariant-loop-at
invariant-loop-at l = string_bytes l.text ++ listed (names_of l.names) l.at (nodes_of (drop l.at l.nodes)) ≡ listed (names_of l.names) 0 (nodes_of l.nodes)
