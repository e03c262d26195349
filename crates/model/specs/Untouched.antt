-- Programs, entries and updates that change only fields below a bound.
use Rattle.std.specs.Prelude.{ℕ, ◌<◌, List, [], ◌∷◌}
use Rattle.model.specs.Action.{Action, Set, Add}
use Rattle.model.specs.Table.{Entry, Tables}
use Rattle.model.specs.Paths.{Paths, Stop, Apply, Branch, Act}
use Rattle.model.specs.Version.{Edit, Replace}
use Rattle.model.specs.Pipeline.{Event, Step, Update}

abbrev pub ActionBelow : ℕ → Action → Type 0
ActionBelow m (Set f o) = f < m
ActionBelow m (Add f o) = f < m

abbrev pub Every : {A : Type 0} → (A → Type 0) → List A → Type 0
Every P [] = Unit {0}
Every P (x ∷ xs) = P x × Every P xs

abbrev pub EntryBelow : ℕ → Entry → Type 0
EntryBelow m e = Every (ActionBelow m) e.actions

abbrev pub TablesBelow : ℕ → Tables → Type 0
TablesBelow m t = (n : ℕ) → Every (EntryBelow m) (t n)

abbrev pub PathsBelow : ℕ → Paths → Type 0
PathsBelow m (Stop o) = Unit {0}
PathsBelow m (Apply o n x) = PathsBelow m x
PathsBelow m (Branch o c x y) = PathsBelow m x × PathsBelow m y
PathsBelow m (Act o a x) = ActionBelow m a × PathsBelow m x

abbrev pub EditBelow : ℕ → Edit → Type 0
EditBelow m (Replace n es) = Every (EntryBelow m) es

abbrev pub EventBelow : ℕ → Event → Type 0
EventBelow m (Step a) = Unit {0}
EventBelow m (Update gs) = Every (EditBelow m) gs
