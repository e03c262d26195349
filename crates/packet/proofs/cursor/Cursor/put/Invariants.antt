use Rattle.std.proofs.Common.{◌≡◌, ◌+◌, ◌*◌, ◌^◌, ◌<◌, ◌++◌, take}
use Rattle.packet.specs.Bits.{bits_of, bits_of_number}
use Rattle.packet.proofs.cursor.Cursor.put.Given as goal

-- the bits stay the same, written or waiting
abbrev pub invariant-loop-held : goal.invariant-loop-held
invariant-loop-held l =
    (bits_of (take l.at l.out) ++ bits_of_number l.held l.waiting ≡ bits_of (take l.initial.at l.initial.out) ++ bits_of_number l.initial.held l.initial.waiting)
    × (l.waiting < 2 ^ l.held)
    × (l.held < 40)
    × (8 * l.at + l.held ≡ 8 * l.initial.at + l.initial.held)

abbrev pub decreases-loop-held : goal.decreases-loop-held
decreases-loop-held l = l.held
