-- The deparser: the bytes of what a packet holds.
use Rattle.std.specs.Prelude.{ℕ, zero, suc, ◌+◌, Bool, cond, List, [], ◌∷◌, ◌++◌, replicate}
use Rattle.model.specs.Packet.{Packet}
use Rattle.packet.specs.Bits.{bits_of_number, bytes_of}
use Rattle.packet.specs.Header.{Widths, Header, size}
use Rattle.packet.specs.Contents.{Contents}

-- the bits of so many fields, from a number on, each with its width
unfoldable pub write_fields : Widths → ℕ → ℕ → Packet → List ℕ
write_fields w zero field p = []
write_fields w (suc count) field p = bits_of_number (w field) (p field) ++ write_fields w count (field + 1) p

-- the bytes of a header; were its bits not whole bytes, zeros follow them in the last one
abbrev pub write_header : Widths → Header → Packet → List ℕ
write_header w h p = bytes_of (size w h) (write_fields w h.count h.first p ++ replicate 7 0)

-- the present headers among these, in the order of the source, from a number on
unfoldable pub write_headers : Widths → List Header → ℕ → (ℕ → Bool) → Packet → List ℕ
write_headers w [] number present p = []
write_headers w (h ∷ hs) number present p = cond (present number) (write_header w h p) [] ++ write_headers w hs (number + 1) present p

-- the present headers, and then the payload
abbrev pub deparse : Widths → List Header → Contents → List ℕ
deparse w hs c = write_headers w hs 0 c.present c.fields ++ c.payload
