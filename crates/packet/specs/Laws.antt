-- Laws of taking packets apart and putting them together, over the bits and bytes of packets.
use Rattle.std.specs.Prelude.{◌≡◌, ℕ, zero, suc, ◌+◌, ◌*◌, ◌%◌, ◌<◌, ◌≤◌, Bool, true, cond, List, [], ◌∷◌, ◌++◌, length, take, drop, Ok}
use Rattle.std.specs.List.{flat_map}
use Rattle.model.specs.Packet.{Packet}
use Rattle.packet.specs.Bits.{bits_of, bits_of_number}
use Rattle.packet.specs.Header.{Widths, Header, bit_count}
use Rattle.packet.specs.Contents.{Contents}
use Rattle.packet.specs.Parsing.{parse}
use Rattle.packet.specs.Deparsing.{write_headers, deparse}

-- each of these is a byte
abbrev pub Bytes : List ℕ → Type 0
Bytes [] = Unit {0}
Bytes (b ∷ bs) = (b < 256) × Bytes bs

-- headers as a source declares them, with no field numbered below `free`: each is whole bytes, and its fields are numbered behind those of the headers before it
abbrev pub Declared : Widths → List Header → ℕ → Type 0
Declared w [] free = Unit {0}
Declared w (h ∷ hs) free = (free ≤ h.first) × (bit_count w h.count h.first % 8 ≡ 0) × Declared w hs (h.first + h.count)

-- putting together what was taken apart gives the same bytes, for every packet that is not refused
abbrev pub RoundTrip : Type 0
RoundTrip =
    (w : Widths) (hs : List Header) (first : ℕ) (bytes : List ℕ) (c : Contents) → Declared w hs 0 → Bytes bytes → parse w hs first bytes ≡ Ok c → deparse w hs c ≡ bytes

-- a packet leaves with as many bytes as it came with, whatever its fields hold by then
abbrev pub SameLength : Type 0
SameLength =
    (w : Widths) (hs : List Header) (first : ℕ) (bytes : List ℕ) (c : Contents) (fields : Packet) → parse w hs first bytes ≡ Ok c →
    length (deparse w hs (record { fields = fields; present = c.present; payload = c.payload })) ≡ length bytes

-- field k of a present header stands in the output, bit by bit, with its value: behind the bytes of the present headers before, and behind the
-- header's own fields before. This is so for any headers
abbrev pub StandsWritten : Type 0
StandsWritten =
    (w : Widths) (before : List Header) (h : Header) (after : List Header) (c : Contents) (k : ℕ) →
    c.present (length before) ≡ true → k < h.count →
    take (w (h.first + k)) (drop (8 * length (write_headers w before 0 c.present c.fields) + bit_count w k h.first) (bits_of (deparse w (before ++ (h ∷ after)) c)))
    ≡ bits_of_number (w (h.first + k)) (c.fields (h.first + k))

-- so many numbers from one on
abbrev pub numbered : ℕ → ℕ → List ℕ
numbered zero field = []
numbered (suc count) field = field ∷ numbered count (field + 1)

-- the numbers of the fields of the present headers, in the order of the source
abbrev pub fields_present : List Header → ℕ → (ℕ → Bool) → List ℕ
fields_present [] number present = []
fields_present (h ∷ hs) number present = cond (present number) (numbered h.count h.first) [] ++ fields_present hs (number + 1) present

-- numbers that rise, so that none stands twice
abbrev pub Rising : ℕ → List ℕ → Type 0
Rising low [] = Unit {0}
Rising low (f ∷ fs) = (low ≤ f) × Rising (f + 1) fs

-- every bit of a packet that is not refused belongs to exactly one field or to the payload: its bits are those of the fields of the present
-- headers, one field after the other and none twice, and then those of the payload
abbrev pub EachBitOnce : Type 0
EachBitOnce =
    (w : Widths) (hs : List Header) (first : ℕ) (bytes : List ℕ) (c : Contents) → Declared w hs 0 → Bytes bytes → parse w hs first bytes ≡ Ok c →
    (bits_of bytes ≡ flat_map (λ field. bits_of_number (w field) (c.fields field)) (fields_present hs 0 c.present) ++ bits_of c.payload)
    × Rising 0 (fields_present hs 0 c.present)
