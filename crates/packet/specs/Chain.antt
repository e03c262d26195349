-- The headers of a packet one behind the other: from the first one on, each picks what comes behind it.
use Rattle.std.specs.Prelude.{◌≡◌, ℕ, ◌+◌, ◌<◌, ◌≤◌, ◌⊎◌, ◌↔◌, List, length, Ok, Err, Result, slice_index_or}
use Rattle.packet.specs.declared.parsed.Refused.{Refused}
use Rattle.packet.specs.declared.parsed.Refused.TheVariants.{EndsWithinHeader, TooLong}
use Rattle.packet.specs.Header.{Widths, Header, Next, End, Then, size}
use Rattle.packet.specs.Contents.{Contents, unread}
use Rattle.packet.specs.Parsing.{read_header, behind, parse}

-- header n of the source is h, and it is none of those before `from`
pub record Comes (hs : List Header) (from n : ℕ) (h : Header) : Type 0 where
  pub later : from ≤ n
  pub declared : n < length hs
  pub is : h ≡ slice_index_or hs n h

-- no header comes: the end was picked, or a header before `from`, or one that the source lacks
abbrev pub Ends : List Header → ℕ → Next → Type 0
Ends hs from End = Unit {0}
Ends hs from (Then n) = (n < from) ⊎ (length hs ≤ n)

-- what becomes of a packet of which c is read, if `next` comes next and no header before `from` can come any more: headers end, and what is
-- left is the payload; or bytes run out within the header; or it is read, and picks what comes behind it
pub data Chain (w : Widths) (hs : List Header) : ℕ → Next → Contents → Result Contents Refused → Type 0 where
  ends : (from : ℕ) (next : Next) (c : Contents) → Ends hs from next → Chain w hs from next c (Ok c)
  cut : (from n : ℕ) (h : Header) (c : Contents) → Comes hs from n h → length c.payload < size w h → Chain w hs from (Then n) c (Err EndsWithinHeader)
  reads : (from n : ℕ) (h : Header) (c : Contents) (r : Result Contents Refused) → Comes hs from n h → size w h ≤ length c.payload →
      Chain w hs (n + 1) (behind h (read_header w n h c)) (read_header w n h c) r → Chain w hs from (Then n) c r

-- a packet is refused exactly if it has too many bytes, or its bytes run out within a header of its chain
abbrev pub Refusals : Type 0
Refusals =
    (w : Widths) (hs : List Header) (first : ℕ) (bytes : List ℕ) →
    ((parse w hs first bytes ≡ Err TooLong) ↔ (2048 < length bytes))
    × ((parse w hs first bytes ≡ Err EndsWithinHeader) ↔ ((length bytes ≤ 2048) × Chain w hs 0 (Then first) (unread bytes) (Err EndsWithinHeader)))

-- a packet holds exactly what is read along its chain
abbrev pub Follows : Type 0
Follows =
    (w : Widths) (hs : List Header) (first : ℕ) (bytes : List ℕ) (c : Contents) →
    (parse w hs first bytes ≡ Ok c) ↔ ((length bytes ≤ 2048) × Chain w hs 0 (Then first) (unread bytes) (Ok c))
