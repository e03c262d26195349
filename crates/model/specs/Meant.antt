-- What is meant, by the events alone: which updates are taken, the tables as they stand at each step, and what each packet becomes. No pipeline, no nodes.
use Rattle.std.specs.Prelude.{ℕ, suc, Bool, false, cond, not, ◌||◌, List, [], ◌∷◌, ◌++◌, take, nat_lt}
use Rattle.model.specs.Packet.{Departure, departs}
use Rattle.model.specs.Declarations.{Declarations}
use Rattle.model.specs.Table.{Tables}
use Rattle.model.specs.Paths.{Paths}
use Rattle.model.specs.Meaning.{means}
use Rattle.model.specs.Version.{edited_all}
use Rattle.model.specs.Pipeline.{Arrival, Idle, Comes, Event, Step, Update}

-- what a step brought: no packet, or one of this version
pub data Came : Type 0 where
  Nobody : Came
  With : (version : ℕ) → Came

-- how many updates were taken, what each step brought, the latest first, and the tables as they stand
pub record History : Type 0 where
  pub newest : ℕ
  pub steps : List Came
  pub tables : Tables

abbrev pub came_before : ℕ → Came → Bool
came_before newest Nobody = false
came_before newest (With v) = nat_lt v newest

unfoldable pub any_before : ℕ → List Came → Bool
any_before newest [] = false
any_before newest (x ∷ xs) = came_before newest x || any_before newest xs

-- an update is taken unless one of the k latest steps brought a packet of a version before the newest
abbrev pub taken_now : ℕ → History → Bool
taken_now k h = not (any_before h.newest (take k h.steps))

abbrev pub brought_by : ℕ → Arrival → Came
brought_by newest Idle = Nobody
brought_by newest (Comes p) = With newest

-- after a list of events, the latest first, from the tables t on
unfoldable pub history : ℕ → Tables → List Event → History
history k t [] = record { newest = 0; steps = []; tables = t }
history k t (Step a ∷ es) = record {
  newest = (history k t es).newest;
  steps = brought_by (history k t es).newest a ∷ (history k t es).steps;
  tables = (history k t es).tables;
}
history k t (Update gs ∷ es) =
    cond (taken_now k (history k t es))
    (record { newest = suc (history k t es).newest; steps = (history k t es).steps; tables = edited_all gs (history k t es).tables })
    (history k t es)

abbrev pub meant_for : Declarations → Paths → Tables → Arrival → Arrival
meant_for d x t Idle = Idle
meant_for d x t (Comes p) = Comes (means d x t p)

-- what each step brought, as the program means it with the tables as they stood when it came; the latest first
unfoldable pub meant : Declarations → Paths → ℕ → Tables → List Event → List Arrival
meant d x k t [] = []
meant d x k t (Step a ∷ es) = meant_for d x (history k t es).tables a ∷ meant d x k t es
meant d x k t (Update gs ∷ es) = meant d x k t es

abbrev pub departs_as : Arrival → List Departure
departs_as Idle = []
departs_as (Comes p) = departs p

unfoldable pub departures : List Arrival → List Departure
departures [] = []
departures (a ∷ more) = departs_as a ++ departures more

-- how many steps are among the events
unfoldable pub steps_in : List Event → ℕ
steps_in [] = 0
steps_in (Step a ∷ es) = suc (steps_in es)
steps_in (Update gs ∷ es) = steps_in es
