-- Statements: the row that they stand for, and what is asked of them.
use Rattle.std.specs.Prelude.{◌≡◌, ℕ, suc, ◌+◌, ◌<◌, List, [], ◌∷◌, ◌++◌, length, Some, None, bit_or}
use Rattle.model.specs.Action as action
use Rattle.model.specs.Action.{Operand, Test, Action}
use Rattle.source.specs.Names.{find}
use Rattle.source.specs.State.{Act, Apply, If, Skip, Row, Names}
use Rattle.source.specs.Bodies.{row, insert}
use Rattle.grammar.specs.Syntax.{Reference, Value, Literal, Content, Verb, Set, Add, Relation, Same, Below, Statements, Empty, Alter, Use, When, Either}
use Rattle.grammar.specs.Lookup.{Known, the, field, GoodValue}
use Rattle.grammar.specs.Program.{Program}
use Rattle.grammar.specs.Paths.{Path, Distinct}

abbrev pub operand : Names → Value → Operand
operand n (Literal m) = action.Number m
operand n (Content r) = action.Field (the (field n r))

abbrev pub altered : Verb → ℕ → Operand → Action
altered Set f o = action.Set f o
altered Add f o = action.Add f o

abbrev pub test : Relation → ℕ → Operand → Test
test Same f o = action.Equals f o
test Below f o = action.Less f o

-- statements in the order of the source. An if jumps past its block if the answer is no; behind a block with an `else` a skip jumps past the other block
abbrev pub rows : Names → Statements → List Row
rows n Empty = []
rows n (Alter o v r x rest) = row o (Act (altered v (the (field n r)) (operand n x))) ∷ rows n rest
rows n (Use o w rest) = row o (Apply (the (find n.tables w))) ∷ rows n rest
rows n (When o r q x block rest) = row o (If (test q (the (field n r)) (operand n x)) (length (rows n block))) ∷ (rows n block ++ rows n rest)
rows n (Either o r q x block p other rest) =
    row o (If (test q (the (field n r)) (operand n x)) (length (rows n block) + 1)) ∷
    (rows n block ++ row p (Skip (length (rows n other))) ∷ (rows n other ++ rows n rest))

-- the tables that may have been applied on a path up to behind the statements, from those that may have been before them; as the bits of a number
abbrev pub applied : Names → Statements → ℕ → ℕ
applied n Empty a = a
applied n (Alter o v r x rest) a = applied n rest a
applied n (Use o w rest) a = applied n rest (insert a (the (find n.tables w)))
applied n (When o r q x block rest) a = applied n rest (applied n block a)
applied n (Either o r q x block p other rest) a = applied n rest (bit_or (applied n block a) (applied n other a))

-- fields and tables are known, numbers are below 2 to the 32nd, and at most eight blocks stand inside one another; depth: the blocks around the statements
pub data Good (n : Names) : (depth : ℕ) → Statements → Type 0 where
  good_empty : {depth : ℕ} → Good n depth Empty
  good_alter : {depth o : ℕ} {v : Verb} {r : Reference} {x : Value} {rest : Statements}
      (target : Known (field n r)) (value : GoodValue n x) (follows : Good n depth rest) → Good n depth (Alter o v r x rest)
  good_use : {depth o : ℕ} {w : List ℕ} {rest : Statements} (table : Known (find n.tables w)) (follows : Good n depth rest) → Good n depth (Use o w rest)
  good_when : {depth o : ℕ} {r : Reference} {q : Relation} {x : Value} {block rest : Statements}
      (left : Known (field n r)) (right : GoodValue n x) (shallow : depth < 8) (inside : Good n (suc depth) block) (follows : Good n depth rest) →
      Good n depth (When o r q x block rest)
  good_either : {depth o p : ℕ} {r : Reference} {q : Relation} {x : Value} {block other rest : Statements}
      (left : Known (field n r)) (right : GoodValue n x) (shallow : depth < 8) (inside : Good n (suc depth) block) (otherwise : Good n (suc depth) other)
      (follows : Good n depth rest) → Good n depth (Either o r q x block p other rest)

-- `do` stands once, and on no path through it a table is applied twice
pub record GoodDo (p : Program) (s : Statements) : Type 0 where
  pub once : p.done ≡ None
  pub statements : Good p.names 1 s
  pub paths : (tables : List ℕ) → Path p.names s tables → Distinct tables

abbrev pub set_done : Statements → ℕ → Program → Program
set_done s end p = record {
  names = p.names;
  routes = p.routes;
  tables = p.tables;
  done = Some (record { rows = rows p.names s; applied = applied p.names s 0; end = end });
}
