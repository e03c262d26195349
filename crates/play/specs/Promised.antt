-- What is promised of a run, by the events alone, and what the pipeline does with each event.
use Rattle.std.specs.Prelude.{Bool, List, [], ◌∷◌, take, drop}
use Rattle.model.specs.Packet.{Departure}
use Rattle.model.specs.Declarations.{Declarations}
use Rattle.model.specs.Paths.{Paths}
use Rattle.model.specs.Version.{empty}
use Rattle.model.specs.Pipeline.{Pipeline, Event, Step, Update, one_bit, leaves, takes, event}
use Rattle.model.specs.Answer.{UpdateAnswer, answered}
use Rattle.model.specs.Meant.{history, taken_now, meant, departures}

-- what a step sends, or what an update is answered
pub data Outcome : Type 0 where
  Sends : List Departure → Outcome
  Answers : UpdateAnswer → Outcome

-- The promise, event by event, with the events before it, the latest first. A step sends what came twelve steps before, as the program means it with the tables as they stood then;
-- an update is taken unless one of the twelve latest steps brought a packet of a version before the newest.
unfoldable pub promised : Declarations → Paths → List Event → List Event → List Outcome
promised d x before [] = []
promised d x before (Step a ∷ es) = Sends (departures (take 1 (drop 11 (meant d x 12 empty before)))) ∷ promised d x (Step a ∷ before) es
promised d x before (Update gs ∷ es) = Answers (answered (taken_now 12 (history 12 empty before))) ∷ promised d x (Update gs ∷ before) es

-- what a pipeline does with an event
abbrev pub outcome_in : Event → Pipeline Bool → Outcome
outcome_in (Step a) c = Sends (leaves c)
outcome_in (Update gs) c = Answers (answered (takes one_bit c))

unfoldable pub played : Pipeline Bool → List Event → List Outcome
played c [] = []
played c (e ∷ es) = outcome_in e c ∷ played (event one_bit e c) es
