use Rattle.std.proofs.Common.{◌≡◌, ℕ, ◌+◌, ◌-◌, ◌*◌, ◌<◌, ◌++◌, get_or, take}
use Rattle.packet.specs.Bits.{bits_of, bits_of_number}
use Rattle.packet.specs.Header.{bit_count}
use Rattle.packet.specs.Deparsing.{write_fields}
use Rattle.packet.specs.Stands.{widths_of, fields_of}
use Rattle.packet.proofs.format.Format.write_header.Given as goal

-- the bits written or waiting, and those of the fields that are left
abbrev pub invariant-loop-field : goal.invariant-loop-field
invariant-loop-field l =
    ((bits_of (take l.cursor.at l.out) ++ bits_of_number l.cursor.held l.cursor.waiting)
    ++ write_fields (widths_of l.self.widths.now) (l.header.from + l.header.fields - l.field) l.field (fields_of l.fields)
    ≡ write_fields (widths_of l.self.widths.now) l.header.fields l.header.from (fields_of l.fields))
    × ((i : ℕ) → get_or l.out i 0 < 256)
    × (8 * l.cursor.at + l.cursor.held + bit_count (widths_of l.self.widths.now) (l.header.from + l.header.fields - l.field) l.field
    ≡ bit_count (widths_of l.self.widths.now) l.header.fields l.header.from)
