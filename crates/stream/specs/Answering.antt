-- What a switch writes for each frame, and how it goes on, whatever machine does the work.
use Rattle.std.specs.Prelude.{ℕ, Bool, cond, List, [], ◌∷◌, ◌++◌, Ok, Err, Result}
use Rattle.model.specs.Pipeline as pipeline
use Rattle.model.specs.Pipeline.{Arrival, Idle, Comes, Step}
use Rattle.packet.specs.Contents.{Contents, code}
use Rattle.packet.specs.Carrying.{carried}
use Rattle.packet.specs.Parsing.{parse}
use Rattle.packet.specs.declared.parsed.Refused as packet
use Rattle.update.specs.Decoded as decoded
use Rattle.update.specs.Decoding as decoding
use Rattle.compiler.specs.Program.{Format}
use Rattle.compiler.specs.Compiling.{Compiled, Accepted, Refused, compiled}
use Rattle.stream.specs.Frames.{Frame, Source, Update, Packet, Pause, Unknown, Starved}
use Rattle.stream.specs.Writing.{told, refused, sent_all}
use Rattle.stream.specs.Machine.{Machine}

-- no program is loaded; a program runs; or an unknown kind came, and nothing more is read
pub data Mode (S : Type 0) : Type 0 where
  Unloaded : Mode S
  Running : Format → S → Mode S
  Stopped : Mode S

-- why an update is refused, as code and offset
abbrev pub told_fault : decoded.Fault → List ℕ
told_fault (decoded.RunsOut o) = told 1 o
told_fault (decoded.LeftOver o) = told 1 o
told_fault (decoded.NoAction o) = told 2 o
told_fault (decoded.NoOperand o) = told 2 o
told_fault (decoded.NoField o) = told 3 o
told_fault (decoded.TooWide o) = told 4 o
told_fault (decoded.NoTable o) = told 11 o
told_fault (decoded.TableTwice o) = told 11 o
told_fault (decoded.TooManyEntries o) = told 11 o
told_fault (decoded.TooManyActions o) = told 11 o
told_fault (decoded.NotItsField o) = told 11 o

-- an update's bytes against a program
abbrev pub decode : Format → List ℕ → decoded.Decoded
decode p body = decoding.decoded p.declarations p.tables body

-- a packet's bytes by a program's headers
abbrev pub take_apart : Format → List ℕ → Result Contents packet.Refused
take_apart p body = parse p.declarations.width p.headers p.first body

-- what a packet brings to its step: if it is refused, nothing
abbrev pub brings : Result Contents packet.Refused → Arrival
brings (Ok c) = Comes (carried c)
brings (Err e) = Idle

abbrev pub refusal : Result Contents packet.Refused → List ℕ
refusal (Ok c) = []
refusal (Err e) = refused (code e)

-- a source where no program is loaded
abbrev pub load_writes : Compiled → List ℕ
load_writes (Accepted p ns) = told 0 0
load_writes (Refused c o) = told c o

-- an update where a program runs
abbrev pub update_writes : Bool → decoded.Decoded → List ℕ
update_writes takes (decoded.Taken gs) = cond takes (told 0 0) (told 12 0)
update_writes takes (decoded.Refused f) = told_fault f

module _ {S : Type 0} where
  abbrev pub loaded : Machine S → Compiled → Mode S
  loaded m (Accepted p ns) = Running p.format (m.start p ns)
  loaded m (Refused c o) = Unloaded

  abbrev pub updated : Machine S → S → decoded.Decoded → S
  updated m s (decoded.Taken gs) = m.after (pipeline.Update gs) s
  updated m s (decoded.Refused f) = s

  -- the bytes that are written for a frame
  abbrev pub writes : Machine S → Mode S → Frame → List ℕ
  writes m Unloaded (Source body) = load_writes (compiled body)
  writes m Unloaded (Update body) = told 13 0
  writes m Unloaded (Packet body) = refused 13
  writes m Unloaded Pause = []
  writes m Unloaded Unknown = refused 1
  writes m Unloaded Starved = told 255 0
  writes m (Running p s) (Source body) = told 13 0
  writes m (Running p s) (Update body) = update_writes (m.takes s) (decode p body)
  writes m (Running p s) (Packet body) = refusal (take_apart p body) ++ sent_all p (m.sends s (brings (take_apart p body)))
  writes m (Running p s) Pause = sent_all p (m.sends s Idle)
  writes m (Running p s) Unknown = refused 1
  writes m (Running p s) Starved = told 255 0
  writes m Stopped f = []

  -- and the mode behind it
  abbrev pub next : Machine S → Mode S → Frame → Mode S
  next m Unloaded (Source body) = loaded m (compiled body)
  next m Unloaded (Update body) = Unloaded
  next m Unloaded (Packet body) = Unloaded
  next m Unloaded Pause = Unloaded
  next m Unloaded Unknown = Stopped
  next m Unloaded Starved = Unloaded
  next m (Running p s) (Source body) = Running p s
  next m (Running p s) (Update body) = Running p (updated m s (decode p body))
  next m (Running p s) (Packet body) = Running p (m.after (Step (brings (take_apart p body))) s)
  next m (Running p s) Pause = Running p (m.after (Step Idle) s)
  next m (Running p s) Unknown = Stopped
  next m (Running p s) Starved = Running p s
  next m Stopped f = Stopped

  -- frames one after the other
  unfoldable pub answers : Machine S → Mode S → List Frame → List ℕ
  answers m a [] = []
  answers m a (f ∷ fs) = writes m a f ++ answers m (next m a f) fs

  unfoldable pub behind : Machine S → Mode S → List Frame → Mode S
  behind m a [] = a
  behind m a (f ∷ fs) = behind m (next m a f) fs
