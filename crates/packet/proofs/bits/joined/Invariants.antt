use Rattle.std.proofs.Common.{◌≡◌, take}
use Rattle.packet.specs.Bits.{bits_of, number_of}
use Rattle.packet.proofs.bits.joined.Given as goal

-- the bytes so far, as one number
abbrev pub invariant-loop-byte : goal.invariant-loop-byte
invariant-loop-byte l = l.number ≡ number_of (bits_of (take l.byte-index l.bytes))
