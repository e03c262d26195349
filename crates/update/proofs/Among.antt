-- A search for a field among others.
use Rattle.std.proofs.Common.{◌≡◌, ℕ, Bool, true, false, cond, ◌||◌, List, [], ◌∷◌, Some, Option, refl, ◌==◌}
use Rattle.std.proofs.lemmas.Bool.{eqb-true}
use Rattle.std.specs.List.{find}
use Rattle.program.specs.Stands.{FieldNo, numbers_of}
use Rattle.update.specs.Decoding.{among}
use Rattle.update.specs.Stands.{Found}

here_or_behind : (f : ℕ) (x : FieldNo) (found : Option FieldNo) (more : Bool) → Found found more f → (b : Bool) → (x.at == f) ≡ b → Found (cond b (Some x) found) (b || more) f
here_or_behind f x found more h true e = (refl, eqb-true x.at f e)
here_or_behind f x found more h false e = h

pub found_among : (f : ℕ) (fs : List FieldNo) → Found (find (λ (x : FieldNo). x.at == f) fs) (among f (numbers_of fs)) f
found_among f [] = refl
found_among f (x ∷ fs) = here_or_behind f x (find (λ (y : FieldNo). y.at == f) fs) (among f (numbers_of fs)) (found_among f fs) (x.at == f) refl
