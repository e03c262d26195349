-- The bytes of an input as frames.
use Rattle.std.specs.Prelude.{ℕ, zero, suc, List, [], ◌∷◌, length}
use Rattle.frames.specs.declared.kind.Kind.{Kind}
use Rattle.frames.specs.declared.kind.Kind.TheVariants as kind
use Rattle.frames.specs.Reading as reading

-- a whole frame with its bytes; or a byte that opens none. Starved: a source or an update for which there was no memory
pub data Frame : Type 0 where
  Source : List ℕ → Frame
  Update : List ℕ → Frame
  Packet : List ℕ → Frame
  Pause : Frame
  Unknown : Frame
  Starved : Frame

abbrev pub framed : Kind → List ℕ → Frame
framed kind.Source body = Source body
framed kind.Update body = Update body
framed kind.Packet body = Packet body

-- whole frames one after the other, and the bytes behind them, of which no frame is whole
pub record Parts : Type 0 where
  pub frames : List Frame
  pub left : List ℕ

abbrev pub nothing_whole : List ℕ → Parts
nothing_whole bs = record { frames = []; left = bs }

abbrev pub behind_frame : Frame → Parts → Parts
behind_frame f p = record { frames = f ∷ p.frames; left = p.left }

-- what stands at the front is a frame, and so on behind it. Behind an unknown kind nothing more is read
abbrev pub on_front : List ℕ → (List ℕ → Parts) → reading.Read → Parts
on_front bs more reading.Empty = nothing_whole []
on_front bs more (reading.Pause rest) = behind_frame Pause (more rest)
on_front bs more (reading.Whole k body rest) = behind_frame (framed k body) (more rest)
on_front bs more (reading.Cut k) = nothing_whole bs
on_front bs more reading.Unknown = behind_frame Unknown (nothing_whole [])

-- at most so many frames
unfoldable pub parts_within : ℕ → List ℕ → Parts
parts_within zero bs = nothing_whole bs
parts_within (suc n) bs = on_front bs (parts_within n) (reading.read bs)

-- a frame has a byte at least, so there are no more frames than bytes
abbrev pub parts : List ℕ → Parts
parts bs = parts_within (length bs) bs
