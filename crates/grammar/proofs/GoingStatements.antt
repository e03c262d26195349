-- Statements that are spelt are read.
use Rattle.std.proofs.Common.{◌≡◌, ℕ, ◌+◌, ◌^◌, ◌<◌, true, false, ltb, List, [], ◌∷◌, ◌++◌, length, None, codes, sym, refl, ap, ◌∙◌, subst}
use lib.Bits.{bit_or}
use Rattle.std.proofs.lemmas.List.{append-nil}
use Rattle.std.proofs.lemmas.Bool.{cond-true, cond-false, lt-ltb}
use Rattle.model.specs.Action.{Test}
use Rattle.model.specs.Declarations.{TableDeclaration}
use Rattle.token.specs.declared.token.Sign.{Sign}
use Rattle.token.specs.declared.token.Sign.TheVariants.{Open, Close, Semicolon, Dot, Is, Equals, Less}
use Rattle.token.specs.Tokens.{Word, Number, Mark, Token, token}
use Rattle.source.specs.Names.{find}
use Rattle.source.specs.State.{Names, Routes, Row, Block, Do, Yes, No, Fork, Detour, If, Skip, Seen, Phase, Item, InBody, InField, Statement, Value, BehindYes, Goal, Change, Ask, Target, Tested, Operates, Named}
use Rattle.source.specs.Steps.{go, says, is_end, is_sign}
use Rattle.source.specs.Bodies.{row, holds, settle}
use Rattle.source.specs.Reading.{onward, run}
use Rattle.grammar.specs.Syntax as syntax
use Rattle.grammar.specs.Syntax.{Reference, Literal, Content, Verb, Set, Add, Relation, Same, Below, Statements, Empty, Alter, Use, When, Either, DoItem}
use Rattle.grammar.specs.Spelling as spelling
use Rattle.grammar.specs.Spelling.{Piece, piece_at, statements, item, Fits, one}
use Rattle.grammar.specs.Lookup.{Known, the, field, GoodValue}
use Rattle.grammar.specs.Program.{Program, seen}
use Rattle.grammar.specs.Statements.{operand, test, rows, applied, Good, good_empty, good_alter, good_use, good_when, good_either, GoodDo, set_done}
use Rattle.grammar.proofs.Going.{Goes, Left, stay, next, by, by_at, to_state, known_is, known_goes, refers}
use Rattle.grammar.proofs.Once.{Once, paths_once}
use Rattle.grammar.proofs.Patching.{patched, patched_again, same_length, one_more, block_more, blocks_more}

value_goes : {q : Phase} {e : Seen} {ks : List Piece} (g : Goal) (d : Seen) (s : Sign) → is_sign Dot (Mark s) ≡ false → (x : syntax.Value) → GoodValue d.names x →
    ((j : ℕ) → settle g (operand d.names x) d (token (Mark s) j) ≡ go q e) → Goes (InBody (Value g)) d (spelling.value x (spelling.sign s ∷ ks)) q e ks
value_goes g d s n (Literal m) h k = next (by (Number m) refl (λ i. cond-true (ltb m (2 ^ 32)) _ _ (lt-ltb m (2 ^ 32) h))) (by (Mark s) refl k)
value_goes g d s n (Content r) h k = refers (Operates g) (InBody (Value g)) d (λ w i. refl) (the (field d.names r)) s refl n r (known_is _ h) k

module _ (n : Names) (r : Routes) (T : List TableDeclaration) where
  abbrev pub at : List Row → List Block → ℕ → Seen
  at R B a = record {
    names = n;
    routes = r;
    tables = record { looks = []; sets = []; declared = T };
    body = record { rows = R; blocks = B; applied = a; begun = true; end = 0 };
  }

  alter_goes : (o : ℕ) (v : Verb) (t : Reference) (x : syntax.Value) (R : List Row) (B : List Block) (a : ℕ) (ks : List Piece) → Known (field n t) → GoodValue n x →
      Goes (InBody Statement) (at R B a) (statements (Alter o v t x Empty) ks) (InBody Statement) (at (R ++ rows n (Alter o v t x Empty)) B a) ks
  alter_goes o Set t x R B a ks k g =
      next (by_at o (Word (codes "set")) refl refl)
      (next (refers (Target false o) (InField (Target false o) Named) (at R B a) (λ w i. refl) (the (field n t)) Is refl refl t (known_is _ k) (λ j. refl))
      (value_goes (Change false (the (field n t)) o) (at R B a) Semicolon refl x g (λ j. refl)))
  alter_goes o Add t x R B a ks k g =
      next (by_at o (Word (codes "add")) refl refl)
      (next (refers (Target true o) (InField (Target true o) Named) (at R B a) (λ w i. refl) (the (field n t)) Is refl refl t (known_is _ k) (λ j. refl))
      (value_goes (Change true (the (field n t)) o) (at R B a) Semicolon refl x g (λ j. refl)))

  use_goes : (o : ℕ) (w : List ℕ) (R : List Row) (B : List Block) (a : ℕ) (ks : List Piece) →
      Known (find n.tables w) → holds a (the (find n.tables w)) ≡ false →
      Goes (InBody Statement) (at R B a) (statements (Use o w Empty) ks) (InBody Statement) (at (R ++ rows n (Use o w Empty)) B (applied n (Use o w Empty) a)) ks
  use_goes o w R B a ks k h =
      next (by_at o (Word (codes "apply")) refl refl)
      (next (by (Word w) refl (λ i. known_goes i _ (find n.tables w) _ (known_is _ k) ∙ cond-false (holds a (the (find n.tables w))) _ _ h)) (by (Mark Semicolon) refl (λ i. refl)))

  abbrev pub fork : List Row → ℕ → Test → ℕ → Fork
  fork R o t a = record { index = length R; offset = o; test = t; before = a }

  -- up to the `{` of the yes block
  if_goes : (o : ℕ) (t : Reference) (q : Relation) (x : syntax.Value) (R : List Row) (B : List Block) (a : ℕ) (ks : List Piece) →
      Known (field n t) → GoodValue n x → length B < 8 →
      Goes (InBody Statement) (at R B a) (spelling.word_at o (codes "if") ∷ spelling.reference t (spelling.sign (spelling.relation q) ∷ spelling.value x (spelling.sign Open ∷ ks)))
      (InBody Statement) (at (R ++ row o (If (test q (the (field n t)) (operand n x)) 0) ∷ []) (Yes (fork R o (test q (the (field n t)) (operand n x)) a) ∷ B) a) ks
  if_goes o t Same x R B a ks k g h =
      next (by_at o (Word (codes "if")) refl refl)
      (next (refers (Tested o) (InField (Tested o) Named) (at R B a) (λ w i. refl) (the (field n t)) Equals refl refl t (known_is _ k) (λ j. refl))
      (value_goes (Ask false (the (field n t)) o) (at R B a) Open refl x g (λ j. cond-true (ltb (length B) 8) _ _ (lt-ltb (length B) 8 h))))
  if_goes o t Below x R B a ks k g h =
      next (by_at o (Word (codes "if")) refl refl)
      (next (refers (Tested o) (InField (Tested o) Named) (at R B a) (λ w i. refl) (the (field n t)) Less refl refl t (known_is _ k) (λ j. refl))
      (value_goes (Ask true (the (field n t)) o) (at R B a) Open refl x g (λ j. cond-true (ltb (length B) 8) _ _ (lt-ltb (length B) 8 h))))

  -- the `}` of the yes block
  yes_goes : (o : ℕ) (t : Test) (R I : List Row) (B : List Block) (a b : ℕ) (ks : List Piece) →
      Goes (InBody Statement) (at ((R ++ row o (If t 0) ∷ []) ++ I) (Yes (fork R o t a) ∷ B) b) (spelling.sign Close ∷ ks)
      (InBody (BehindYes (fork R o t a))) (at (R ++ row o (If t (length I)) ∷ I) B b) ks
  yes_goes o t R I B a b ks =
      to_state (ap (λ (Z : List Row). at Z B b) (patched (λ (m : ℕ). row o (If t m)) R (row o (If t 0)) I (length R) refl)) (by (Mark Close) refl (λ i. refl))

  -- behind a yes block a word other than `else` does what it does elsewhere
  passes_by : (f : Fork) (d : Seen) (k : Piece) (ks : List Piece) → says (codes "else") k.kind ≡ false → (ts : List Token) → Fits (k ∷ ks) ts →
      Left (run (InBody (BehindYes f)) d ts) (InBody Statement) d (k ∷ ks)
  unfolding run
  passes_by f d k ks e ts (one {x = x} {xs = xs} c o h) =
      record {
        rest = x ∷ xs;
        fits = one c o h;
        same = ap (onward (is_end x.kind) (λ q e. run q e xs)) (cond-false (says (codes "else") x.kind) _ _ (ap (says (codes "else")) c ∙ e));
      }

  no_else : (f : Fork) (d : Seen) (s : Statements) (k : Piece) (ks : List Piece) → says (codes "else") k.kind ≡ false →
      Goes (InBody (BehindYes f)) d (statements s (k ∷ ks)) (InBody Statement) d (statements s (k ∷ ks))
  no_else f d Empty k ks e = record { goes = passes_by f d k ks e }
  no_else f d (Alter o Set t x rest) k ks e = record { goes = passes_by f d _ _ refl }
  no_else f d (Alter o Add t x rest) k ks e = record { goes = passes_by f d _ _ refl }
  no_else f d (Use o w rest) k ks e = record { goes = passes_by f d _ _ refl }
  no_else f d (When o t q x block rest) k ks e = record { goes = passes_by f d _ _ refl }
  no_else f d (Either o t q x block p other rest) k ks e = record { goes = passes_by f d _ _ refl }

  abbrev pub detour : ℕ → ℕ → ℕ → Detour
  detour i p b = record { index = i; offset = p; applied = b }

  -- `else`, and the `{` of the no block
  else_goes : (o p : ℕ) (t : Test) (R I : List Row) (B : List Block) (a b : ℕ) (ks : List Piece) → length B < 8 →
      Goes (InBody (BehindYes (fork R o t a))) (at (R ++ row o (If t (length I)) ∷ I) B b) (spelling.word_at p (codes "else") ∷ spelling.sign Open ∷ ks)
      (InBody Statement) (at ((R ++ row o (If t (length I + 1)) ∷ I) ++ row p (Skip 0) ∷ []) (No (detour (length (R ++ row o (If t (length I)) ∷ I)) p b) ∷ B) a) ks
  else_goes o p t R I B a b ks h =
      next (to_state (ap (λ (Z : List Row). at (Z ++ row p (Skip 0) ∷ []) B a) (patched_again (λ (m : ℕ). row o (If t m)) R (row o (If t (length I))) I)) (by_at p (Word (codes "else")) refl refl))
      (by (Mark Open) refl (λ i. cond-true (ltb (length B) 8) _ _ (lt-ltb (length B) 8 h)))

  -- the `}` of the no block
  no_goes : (i p : ℕ) (R O : List Row) (B : List Block) (b c : ℕ) (ks : List Piece) → i ≡ length R →
      Goes (InBody Statement) (at ((R ++ row p (Skip 0) ∷ []) ++ O) (No (detour i p b) ∷ B) c) (spelling.sign Close ∷ ks)
      (InBody Statement) (at (R ++ row p (Skip (length O)) ∷ O) B (bit_or b c)) ks
  no_goes i p R O B b c ks e =
      to_state (ap (λ (Z : List Row). at Z B (bit_or b c)) (patched (λ (m : ℕ). row p (Skip m)) R (row p (Skip 0)) O i e)) (by (Mark Close) refl (λ i. refl))

  pub statements_go : (s : Statements) (R : List Row) (B : List Block) (a : ℕ) (k : Piece) (ks : List Piece) → says (codes "else") k.kind ≡ false → Good n (length B) s → Once n a s →
      Goes (InBody Statement) (at R B a) (statements s (k ∷ ks)) (InBody Statement) (at (R ++ rows n s) B (applied n s a)) (k ∷ ks)
  statements_go Empty R B a k ks e good_empty c = to_state (ap (λ (Z : List Row). at Z B a) (sym (append-nil R))) stay
  statements_go (Alter o v t x rest) R B a k ks e (good_alter target value follows) c =
      next (alter_goes o v t x R B a (statements rest (k ∷ ks)) target value)
      (to_state (ap (λ (Z : List Row). at Z B (applied n rest a)) (one_more R _ (rows n rest)))
      (statements_go rest (R ++ rows n (Alter o v t x Empty)) B a k ks e follows c))
  statements_go (Use o w rest) R B a k ks e (good_use table follows) c =
      next (use_goes o w R B a (statements rest (k ∷ ks)) table c.0)
      (to_state (ap (λ (Z : List Row). at Z B (applied n (Use o w rest) a)) (one_more R _ (rows n rest)))
      (statements_go rest (R ++ rows n (Use o w Empty)) B (applied n (Use o w Empty) a) k ks e follows c.1))
  statements_go (When o t q x block rest) R B a k ks e (good_when left right shallow inside follows) c =
      next (if_goes o t q x R B a _ left right shallow)
      (next (statements_go block _ _ a (spelling.sign Close) (statements rest (k ∷ ks)) refl inside c.0)
      (next (yes_goes o _ R (rows n block) B a (applied n block a) (statements rest (k ∷ ks)))
      (next (no_else _ _ rest k ks e)
      (to_state (ap (λ (Z : List Row). at Z B (applied n rest (applied n block a))) (block_more R _ (rows n block) (rows n rest)))
      (statements_go rest _ B (applied n block a) k ks e follows c.1)))))
  statements_go (Either o t q x block p other rest) R B a k ks e (good_either left right shallow inside otherwise follows) c =
      next (if_goes o t q x R B a _ left right shallow)
      (next (statements_go block _ _ a (spelling.sign Close) _ refl inside c.0)
      (next (yes_goes o _ R (rows n block) B a (applied n block a) _)
      (next (else_goes o p _ R (rows n block) B a (applied n block a) _ shallow)
      (next (statements_go other _ _ a (spelling.sign Close) (statements rest (k ∷ ks)) refl otherwise c.1)
      (next (no_goes _ p _ (rows n other) B (applied n block a) (applied n other a) (statements rest (k ∷ ks)) (same_length R _ _ (rows n block)))
      (to_state (ap (λ (Z : List Row). at Z B (applied n rest (bit_or (applied n block a) (applied n other a)))) (blocks_more R _ (rows n block) _ (rows n other) (rows n rest)))
      (statements_go rest _ B (bit_or (applied n block a) (applied n other a)) k ks e follows c.2)))))))

do_from : (n : Names) (r : Routes) (T : List TableDeclaration) (s : Statements) (o : ℕ) (ks : List Piece) → Good n 1 s → Once n 0 s →
    Goes Item (seen (record { names = n; routes = r; tables = T; done = None })) (item (DoItem s o) ks) Item (seen (set_done s o (record { names = n; routes = r; tables = T; done = None }))) ks
do_from n r T s o ks g c =
    next (by (Word (codes "do")) refl (λ i. refl))
    (next (by (Mark Open) refl (λ i. refl))
    (next (statements_go n r T s [] (Do ∷ []) 0 (piece_at o (Mark Close)) ks refl g c) (by_at o (Mark Close) refl refl)))

-- a program with no `do`
pub as_none : (p : Program) → p.done ≡ None → p ≡ record { names = p.names; routes = p.routes; tables = p.tables; done = None }
as_none p e = λ i. record { names = p.names; routes = p.routes; tables = p.tables; done = e i }

pub do_goes : (p : Program) (s : Statements) (o : ℕ) (ks : List Piece) → GoodDo p s → Goes Item (seen p) (item (DoItem s o) ks) Item (seen (set_done s o p)) ks
do_goes p s o ks g =
    subst (λ (m : Program). Goes Item (seen m) (item (DoItem s o) ks) Item (seen (set_done s o p)) ks) (sym (as_none p g.once))
    (do_from p.names p.routes p.tables s o ks g.statements (paths_once p.names s g.paths))
