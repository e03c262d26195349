-- Numbers that are all different.
use Rattle.std.specs.Prelude.{ℕ, Bool, true, not, ◌&&◌, List, [], ◌∷◌, ◌==◌}

-- p is none of these
abbrev pub apart : ℕ → List ℕ → Bool
apart p [] = true
apart p (q ∷ qs) = not (q == p) && apart p qs

-- no two are the same
abbrev pub distinct : List ℕ → Bool
distinct [] = true
distinct (p ∷ ps) = apart p ps && distinct ps
