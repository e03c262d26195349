use Rattle.std.proofs.Common.{◌≡◌, ◌+◌, ◌*◌, ◌≤◌, min, map, length, drop, vec_items}
use Rattle.model.specs.Packet.{Packet}
use Rattle.packet.specs.Deparsing.{write_headers}
use Rattle.packet.specs.Stands.{widths_of, header_of, headers_of, present_of}
use Rattle.packet.proofs.format.Format.size_of_present.Given as goal

-- the bytes so far and those of the headers that are left
abbrev pub invariant-loop-number : goal.invariant-loop-number
invariant-loop-number l =
    ((p : Packet) →
    l.bytes + length (write_headers (widths_of l.self.widths.now) (map header_of (drop l.number (vec_items l.self.headers.now.all))) l.number (present_of l.present) p)
    ≡ length (write_headers (widths_of l.self.widths.now) (headers_of l.self.headers.now) 0 (present_of l.present) p))
    × (l.bytes ≤ 256 * min l.number 8)
