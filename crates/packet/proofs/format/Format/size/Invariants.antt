use Rattle.std.proofs.Common.{◌≡◌, ◌+◌, ◌-◌, ◌*◌, ◌≤◌}
use Rattle.packet.specs.Header.{bit_count}
use Rattle.packet.specs.Stands.{widths_of}
use Rattle.packet.proofs.format.Format.size.Given as goal

-- the bits so far and those of the fields that are left
abbrev pub invariant-loop-field : goal.invariant-loop-field
invariant-loop-field l =
    (l.bits + bit_count (widths_of l.self.widths.now) (l.header.from + l.header.fields - l.field) l.field ≡ bit_count (widths_of l.self.widths.now) l.header.fields l.header.from)
    × (l.bits + 32 * l.header.from ≤ 32 * l.field)
