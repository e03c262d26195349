-- The paths through statements, by the answer taken at each `if`.
use Rattle.std.specs.Prelude.{ℕ, ◌≢◌, List, [], ◌∷◌, ◌++◌}
use Rattle.source.specs.Names.{find}
use Rattle.source.specs.State.{Names}
use Rattle.grammar.specs.Syntax.{Reference, Value, Verb, Relation, Statements, Empty, Alter, Use, When, Either}
use Rattle.grammar.specs.Lookup.{the}

-- a path, with the tables that it applies in their order
pub data Path (n : Names) : Statements → List ℕ → Type 0 where
  path_empty : Path n Empty []
  path_alter : {o : ℕ} {v : Verb} {r : Reference} {x : Value} {rest : Statements} {ts : List ℕ} (follows : Path n rest ts) → Path n (Alter o v r x rest) ts
  path_use : {o : ℕ} {w : List ℕ} {rest : Statements} {ts : List ℕ} (follows : Path n rest ts) → Path n (Use o w rest) (the (find n.tables w) ∷ ts)
  path_inside : {o : ℕ} {r : Reference} {q : Relation} {x : Value} {block rest : Statements} {us ts : List ℕ}
      (inside : Path n block us) (follows : Path n rest ts) → Path n (When o r q x block rest) (us ++ ts)
  path_past : {o : ℕ} {r : Reference} {q : Relation} {x : Value} {block rest : Statements} {ts : List ℕ} (follows : Path n rest ts) → Path n (When o r q x block rest) ts
  path_yes : {o p : ℕ} {r : Reference} {q : Relation} {x : Value} {block other rest : Statements} {us ts : List ℕ}
      (inside : Path n block us) (follows : Path n rest ts) → Path n (Either o r q x block p other rest) (us ++ ts)
  path_no : {o p : ℕ} {r : Reference} {q : Relation} {x : Value} {block other rest : Statements} {us ts : List ℕ}
      (otherwise : Path n other us) (follows : Path n rest ts) → Path n (Either o r q x block p other rest) (us ++ ts)

abbrev pub Absent : ℕ → List ℕ → Type 0
Absent t [] = Unit {0}
Absent t (u ∷ us) = (t ≢ u) × Absent t us

-- none twice
abbrev pub Distinct : List ℕ → Type 0
Distinct [] = Unit {0}
Distinct (t ∷ ts) = Absent t ts × Distinct ts
