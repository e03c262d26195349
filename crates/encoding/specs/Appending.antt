-- What a writer does to the bytes so far.
use Rattle.std.specs.Prelude.{◌≡◌, ℕ, List, ◌++◌, Ok, Err, Result}

-- these bytes are at the front
pub record Begins (front whole : List ℕ) : Type 0 where
  pub more : List ℕ
  pub is : whole ≡ front ++ more

-- bytes are appended; else those from before are still at the front
abbrev pub Appends : {E : Type 0} → (before after bytes : List ℕ) → Result (Unit {0}) E → Type 0
Appends before after bytes (Ok u) = after ≡ before ++ bytes
Appends before after bytes (Err e) = Begins before after
