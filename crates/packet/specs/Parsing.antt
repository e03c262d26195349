-- The parser: what a packet's bytes hold.
use Rattle.std.specs.Prelude.{ℕ, zero, suc, ◌+◌, cond, List, [], ◌∷◌, length, take, drop, Ok, Err, Result, nat_lt}
use Rattle.model.specs.Packet.{Packet, put}
use Rattle.packet.specs.declared.parsed.Refused.{Refused}
use Rattle.packet.specs.declared.parsed.Refused.TheVariants.{EndsWithinHeader, TooLong}
use Rattle.packet.specs.Bits.{bits_of, number_of}
use Rattle.packet.specs.Header.{Widths, Header, Next, Then, chosen, comes, size}
use Rattle.packet.specs.Contents.{Contents, unread, with}

-- so many fields, from a number on, one after the other from the first bit on
unfoldable pub read_fields : Widths → ℕ → ℕ → List ℕ → Packet → Packet
read_fields w zero field bits p = p
read_fields w (suc count) field bits p =
    read_fields w count (field + 1) (drop (w field) bits) (put field (number_of (take (w field) bits)) p)

-- a header is read from the front of what is left
abbrev pub read_header : Widths → ℕ → Header → Contents → Contents
read_header w number h c = record {
  fields = read_fields w h.count h.first (bits_of c.payload) c.fields;
  present = with number c.present;
  payload = drop (size w h) c.payload;
}

-- what comes behind a header that was just read
abbrev pub behind : Header → Contents → Next
behind h c = chosen h.choices (c.fields h.by)

-- the headers of the source in their order, from a number on: the one that comes next is read, and the others are passed over. A choice that
-- names no header, or none that is still to come, is the end
unfoldable pub parse_from : Widths → List Header → ℕ → Next → Contents → Result Contents Refused
parse_from w [] number next c = Ok c
parse_from w (h ∷ hs) number next c =
    cond (comes next number)
    (cond (nat_lt (length c.payload) (size w h)) (Err EndsWithinHeader) (parse_from w hs (number + 1) (behind h (read_header w number h c)) (read_header w number h c)))
    (parse_from w hs (number + 1) next c)

-- a packet has at most 2,048 bytes, and begins with the header that the source says
abbrev pub parse : Widths → List Header → ℕ → List ℕ → Result Contents Refused
parse w hs first bytes = cond (nat_lt 2048 (length bytes)) (Err TooLong) (parse_from w hs 0 (Then first) (unread bytes))
