-- What a short vector holds.
use Rattle.std.specs.Prelude.{ℕ, List, take}
use Rattle.few.specs.declared.few.Few.{Few}

-- its elements, in order
abbrev pub items_of : {T : Type 0} {n : ℕ} → Few T n → List T
items_of v = take v.count v.all
