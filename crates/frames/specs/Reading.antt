-- What stands at the front of a stream of frames, as the bytes alone say it.
use Rattle.std.specs.Prelude.{ℕ, ◌+◌, ◌*◌, cond, List, [], ◌∷◌, length, take, drop, ◌==◌, nat_lt}
use Rattle.frames.specs.declared.kind.Kind.{Kind}
use Rattle.frames.specs.declared.kind.Kind.TheVariants.{Source, Update, Packet}
use Rattle.frames.specs.declared.opening.Opening.{Opening}
use Rattle.frames.specs.declared.opening.Opening.TheVariants as opening

-- the front of a stream: nothing, a pause and what follows it, a whole frame with its bytes and what
-- follows it, a frame that is not all there, or a byte that opens no frame
pub data Read : Type 0 where
  Empty : Read
  Pause : List ℕ → Read
  Whole : Kind → List ℕ → List ℕ → Read
  Cut : Kind → Read
  Unknown : Read

-- the number that bytes stand for behind those that stand for n, high byte first
abbrev pub number_after : ℕ → List ℕ → ℕ
number_after n [] = n
number_after n (b ∷ bs) = number_after (n * 256 + b) bs

-- the number that bytes stand for, high byte first
abbrev pub number : List ℕ → ℕ
number bs = number_after 0 bs

-- what a kind byte opens
abbrev pub opens : ℕ → Opening
opens b =
    cond (b == 1) (opening.Framed Source) (cond (b == 2) (opening.Framed Update) (cond (b == 3) (opening.Framed Packet) (cond (b == 4) opening.Pause opening.Unknown)))

-- how many bytes the length field of a kind has
abbrev pub length_bytes : Kind → ℕ
length_bytes Source = 4
length_bytes Update = 4
length_bytes Packet = 2

-- how many bytes a frame with this body has: the kind byte, the length field and the body
abbrev pub size : Kind → List ℕ → ℕ
size k body = 1 + length_bytes k + length body

-- what stands behind the length field n: so many bytes, or fewer
abbrev pub behind_length : Kind → ℕ → List ℕ → Read
behind_length k n bs = cond (nat_lt (length bs) n) (Cut k) (Whole k (take n bs) (drop n bs))

-- what stands behind a kind byte: the length field and so many bytes, or fewer
abbrev pub behind_kind : Kind → List ℕ → Read
behind_kind k bs =
    cond (nat_lt (length bs) (length_bytes k)) (Cut k) (behind_length k (number (take (length_bytes k) bs)) (drop (length_bytes k) bs))

-- what stands at a kind byte that opens this
abbrev pub opened : Opening → List ℕ → Read
opened (opening.Framed k) bs = behind_kind k bs
opened opening.Pause bs = Pause bs
opened opening.Unknown bs = Unknown

-- what stands at the front of these bytes
abbrev pub read : List ℕ → Read
read [] = Empty
read (b ∷ bs) = opened (opens b) bs
