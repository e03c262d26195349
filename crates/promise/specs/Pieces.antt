-- An input that comes in pieces.
use Rattle.std.specs.Prelude.{◌≡◌, ℕ, Bool, List, [], ◌++◌}
use Rattle.stream.specs.Answering.{Mode, answers, behind}
use Rattle.stream.specs.Frames.{parts}
use Rattle.model.specs.Pipeline.{Pipeline}
use Rattle.stream.specs.Machine.{Machine}
use Rattle.stream.specs.Machines.{pipeline, Past, twelve_later}
use Rattle.stream.specs.Whole.{last_words}

-- the first piece a is done, and what is left of it, with the piece b behind it, is done next: this is as if all had come at once
pub record InPieces (S : Type 0) (m : Machine S) (mode : Mode S) (a b : List ℕ) : Type 0 where
  pub writes : answers m mode (parts (a ++ b)).frames
      ≡ answers m mode (parts a).frames ++ answers m (behind m mode (parts a).frames) (parts ((parts a).left ++ b)).frames
  pub goes : behind m mode (parts (a ++ b)).frames ≡ behind m (behind m mode (parts a).frames) (parts ((parts a).left ++ b)).frames
  pub ends : last_words (behind m mode (parts (a ++ b)).frames) (parts (a ++ b)).left
      ≡ last_words (behind m mode (parts (a ++ b)).frames) (parts ((parts a).left ++ b)).left

-- so for the switch, and for what is meant
abbrev pub ServedInPieces : Type 0
ServedInPieces = ((mode : Mode (Pipeline Bool)) (a b : List ℕ) → InPieces (Pipeline Bool) pipeline mode a b) × ((mode : Mode Past) (a b : List ℕ) → InPieces Past twelve_later mode a b)

-- where no frame is whole, all bytes are left
abbrev pub NothingWhole : Type 0
NothingWhole = (bs : List ℕ) → (parts bs).frames ≡ [] → (parts bs).left ≡ bs
