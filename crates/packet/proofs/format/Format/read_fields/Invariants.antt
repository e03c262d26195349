use Rattle.std.proofs.Common.{◌≡◌, ◌+◌, ◌-◌, ◌*◌, ◌≤◌, length, drop}
use Rattle.packet.specs.Bits.{bits_of}
use Rattle.packet.specs.Header.{bit_count}
use Rattle.packet.specs.Parsing.{read_fields}
use Rattle.packet.specs.Stands.{widths_of, fields_of}
use Rattle.packet.proofs.format.Format.read_fields.Given as goal

-- what is left to read makes of the fields now what all makes of them as they came
abbrev pub invariant-loop-field : goal.invariant-loop-field
invariant-loop-field l =
    (read_fields (widths_of l.self.widths.now) (l.header.from + l.header.fields - l.field) l.field (drop l.at (bits_of l.bytes.all.now)) (fields_of l.fields)
    ≡ read_fields (widths_of l.self.widths.now) l.header.fields l.header.from (bits_of l.bytes.all.now) (fields_of l.initial.fields))
    × (l.at + bit_count (widths_of l.self.widths.now) (l.header.from + l.header.fields - l.field) l.field ≤ 8 * length l.bytes.all.now)
    × (length l.fields.of ≡ 64)
