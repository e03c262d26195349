use Rattle.std.proofs.Common.{◌≡◌, ◌≤◌, map, length, drop, vec_items}
use Rattle.packet.specs.Header.{Then}
use Rattle.packet.specs.Contents.{unread}
use Rattle.packet.specs.Parsing.{parse_from}
use Rattle.packet.specs.Stands.{widths_of, next_of, header_of, headers_of}
use Rattle.packet.specs.Progress.{reached}
use Rattle.packet.proofs.format.Format.parse.Given as goal

-- what is left of the headers decides
abbrev pub invariant-loop-number : goal.invariant-loop-number
invariant-loop-number l =
    (parse_from (widths_of l.self.widths.now) (map header_of (drop l.number (vec_items l.self.headers.now.all))) l.number (next_of l.progress.next) (reached l.progress l.bytes)
    ≡ parse_from (widths_of l.self.widths.now) (headers_of l.self.headers.now) 0 (Then l.self.headers.now.first.at) (unread l.bytes))
    × (l.progress.at ≤ length l.bytes)
