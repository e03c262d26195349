-- Laws of reading frames, in terms of the bytes that a frame is written as.
use Rattle.std.specs.Prelude.{◌≡◌, ℕ, ◌/◌, ◌%◌, ◌^◌, ◌<◌, ◌≤◌, Bool, false, ◌⊎◌, List, [], ◌∷◌, ◌++◌, length, ◌≢◌}
use Rattle.frames.specs.declared.kind.Kind.{Kind}
use Rattle.frames.specs.declared.kind.Kind.TheVariants.{Source, Update, Packet}
use Rattle.frames.specs.Answering.{four_bytes}
use Rattle.frames.specs.declared.served.Served.{Served}
use Rattle.frames.specs.declared.served.Served.TheVariants.{More, Frame, End, AtSource}
use Rattle.frames.specs.Serving.{silent, served}
use Rattle.frames.specs.Reading.{Read, Empty, Pause, Whole, Cut, Unknown, read, length_bytes}

-- each of these is a byte
abbrev pub Bytes : List ℕ → Type 0
Bytes [] = Unit {0}
Bytes (b ∷ bs) = (b < 256) × Bytes bs

-- the byte that opens a frame of this kind
abbrev pub kind_byte : Kind → ℕ
kind_byte Source = 1
kind_byte Update = 2
kind_byte Packet = 3

-- a length as the bytes of the length field, high byte first
abbrev pub length_field : Kind → ℕ → List ℕ
length_field Source n = four_bytes n
length_field Update n = four_bytes n
length_field Packet n = (n / 256 % 256) ∷ ((n % 256) ∷ [])

-- the bytes of the frame with this body
abbrev pub frame : Kind → List ℕ → List ℕ
frame k body = kind_byte k ∷ (length_field k (length body) ++ body)

-- what is read stands for these bytes, all of them and in their order
abbrev pub Covers : List ℕ → Read → Type 0
Covers bs Empty = bs ≡ []
Covers bs (Pause rest) = bs ≡ 4 ∷ rest
Covers bs (Whole k body rest) = bs ≡ frame k body ++ rest
Covers bs (Cut k) = (begun : List ℕ) × (bs ≡ kind_byte k ∷ begun)
Covers bs Unknown = (b : ℕ) × (rest : List ℕ) × (bs ≡ b ∷ rest) × ((b ≡ 0) ⊎ (4 < b))

-- nothing is lost or made up in reading: what is read covers the input
abbrev pub Framing : Type 0
Framing = (bs : List ℕ) → Bytes bs → Covers bs (read bs)

-- a frame is read as it was written, whatever follows it, if its length fits the length field
abbrev pub RoundTrip : Type 0
RoundTrip =
    (k : Kind) (body rest : List ℕ) → length body < 256 ^ length_bytes k → read (frame k body ++ rest) ≡ Whole k body rest

-- the same front, with more bytes behind it; of a front that is not whole nothing is said
abbrev pub Followed : Read → List ℕ → Read → Type 0
Followed Empty more r = Unit {0}
Followed (Pause rest) more r = r ≡ Pause (rest ++ more)
Followed (Whole k body rest) more r = r ≡ Whole k body (rest ++ more)
Followed (Cut k) more r = Unit {0}
Followed Unknown more r = r ≡ Unknown

-- bytes that come later do not change what was whole
abbrev pub Lasting : Type 0
Lasting = (bs more : List ℕ) → Followed (read bs) more (read (bs ++ more))

-- what is done early is what would be done late: if the bytes at hand are not just awaiting more, then
-- what is done about them is the same with more bytes behind them, and with the input ended
abbrev pub Early : Type 0
Early =
    (bs more : List ℕ) (ended : Bool) → (served bs false ≢ silent More) → served (bs ++ more) ended ≡ served bs false

-- a frame that was done has a byte at least, and none that is not at hand
abbrev pub Within : Served → ℕ → Type 0
Within More n = Unit {0}
Within (Frame used) n = (0 < used) × (used ≤ n)
Within End n = Unit {0}
Within AtSource n = Unit {0}

-- serving goes on by frames that are at hand
abbrev pub Advancing : Type 0
Advancing = (bs : List ℕ) (ended : Bool) → Within (served bs ended).result (length bs)
