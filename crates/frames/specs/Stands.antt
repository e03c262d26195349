-- What the code's values stand for.
use Rattle.frames.specs.declared.front.Next.{Next}
use Rattle.frames.specs.declared.front.Next.TheVariants as next
use Rattle.frames.specs.Reading as reading

-- the code's slices as lists
abbrev pub read_of : Next → reading.Read
read_of next.Empty = reading.Empty
read_of (next.Pause rest) = reading.Pause rest.now
read_of (next.Whole kind body rest) = reading.Whole kind body.now rest.now
read_of (next.Cut kind) = reading.Cut kind
read_of next.Unknown = reading.Unknown
