-- Where a path goes on behind a node.
use Rattle.std.specs.Prelude.{ℕ, Bool, true}
use Rattle.model.specs.Placement.{still_changed}
use Rattle.placement.specs.declared.branch.Point.{Point}

abbrev pub point : ℕ → ℕ → Bool → Point
point i s changed = record { at = i; stage = s; changed = changed }

-- behind an action or a table on stage s
abbrev pub behind_change : ℕ → ℕ → Point
behind_change i s = point i s true

-- behind a branch at p on stage s
abbrev pub behind_branch : Point → ℕ → ℕ → Point
behind_branch p i s = point i s (still_changed p.changed p.stage s)
