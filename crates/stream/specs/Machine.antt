-- What does the work behind the frames: a pipeline, or the meaning of the program alone.
use Rattle.std.specs.Prelude.{Bool, List}
use Rattle.model.specs.Packet.{Departure}
use Rattle.model.specs.Node.{Node}
use Rattle.model.specs.Pipeline.{Arrival, Event}
use Rattle.compiler.specs.Program.{Program}

-- start: with a program that is placed so. sends: what goes out in a step that brings this. takes: whether an update would be taken. after: the state behind an event
pub record Machine (S : Type 0) : Type 0 where
  pub start : Program → List Node → S
  pub sends : S → Arrival → List Departure
  pub takes : S → Bool
  pub after : Event → S → S
