use Rattle.std.proofs.Common.{◌≡◌, ◌+◌, ◌≤◌, ◌++◌, map, length, take, drop, vec_items}
use Rattle.packet.specs.Deparsing.{write_headers}
use Rattle.packet.specs.Stands.{widths_of, fields_of, header_of, headers_of, present_of}
use Rattle.packet.proofs.format.Format.write_headers.Given as goal

-- what is written and the headers that are left are all headers, and behind what is written `out` is as it was
abbrev pub invariant-loop-number : goal.invariant-loop-number
invariant-loop-number l =
    (take l.at l.out ++ write_headers (widths_of l.self.widths.now) (map header_of (drop l.number (vec_items l.self.headers.now.all))) l.number (present_of l.present) (fields_of l.fields)
    ≡ write_headers (widths_of l.self.widths.now) (headers_of l.self.headers.now) 0 (present_of l.present) (fields_of l.fields))
    × (drop l.at l.out ≡ drop l.at l.initial.out)
    × (l.at + length (write_headers (widths_of l.self.widths.now) (map header_of (drop l.number (vec_items l.self.headers.now.all))) l.number (present_of l.present) (fields_of l.fields)) ≤ length l.out)
