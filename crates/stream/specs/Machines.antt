-- The machines: the pipeline of the switch, and what is meant with no pipeline at all.
use Rattle.std.specs.Prelude.{Bool, List, [], ◌∷◌, take, drop}
use Rattle.model.specs.Node.{Node}
use Rattle.model.specs.Version.{Version, empty}
use Rattle.model.specs.Pipeline.{Pipeline, Event, one_bit, start, leaves, takes, event}
use Rattle.model.specs.Meant.{history, taken_now, meant, meant_for, departs_as, departures}
use Rattle.compiler.specs.Program.{Program, paths_of}
use Rattle.stream.specs.Machine.{Machine}

-- a program with all tables empty
abbrev pub first_version : Program → List Node → Version
first_version p ns = record { declarations = p.format.declarations; nodes = ns; tables = empty }

-- twelve slots
abbrev pub pipeline : Machine (Pipeline Bool)
pipeline = record {
  start = λ p ns. start one_bit 12 (first_version p ns);
  sends = λ c a. leaves c;
  takes = λ c. takes one_bit c;
  after = λ e c. event one_bit e c;
}

-- a program, and what happened to it, the latest first
pub record Past : Type 0 where
  pub program : Program
  pub events : List Event

abbrev pub happened : Event → Past → Past
happened e h = record { program = h.program; events = e ∷ h.events }

abbrev pub begun : Program → List Node → Past
begun p ns = record { program = p; events = [] }

-- an update is taken unless one of the twelve latest steps brought a packet of a version before the newest
abbrev pub takes_now : Past → Bool
takes_now h = taken_now 12 (history 12 empty h.events)

-- No pipeline: in each step goes out what came twelve steps before, as the program from top to bottom means it with the tables as they stood then
abbrev pub twelve_later : Machine Past
twelve_later = record {
  start = begun;
  sends = λ h a. departures (take 1 (drop 11 (meant h.program.format.declarations (paths_of h.program) 12 empty h.events)));
  takes = takes_now;
  after = happened;
}

-- the same at once: what comes goes out in its own step
abbrev pub at_once : Machine Past
at_once = record {
  start = begun;
  sends = λ h a. departs_as (meant_for h.program.format.declarations (paths_of h.program) (history 12 empty h.events).tables a);
  takes = takes_now;
  after = happened;
}
