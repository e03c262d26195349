-- Branches, and all statements, that are read are spelt.
use Rattle.std.proofs.Common.{◌≡◌, ℕ, suc, ◌+◌, ◌<◌, Bool, true, false, ltb, List, [], ◌∷◌, ◌++◌, length, codes, refl, subst}
use lib.Bits.{bit_or}
use Rattle.std.proofs.lemmas.Bool.{ltb-true}
use Rattle.model.specs.Action.{Test}
use Rattle.model.specs.Declarations.{TableDeclaration}
use Rattle.token.specs.declared.token.Sign.TheVariants.{Open, Close, Equals, Less}
use Rattle.token.specs.Tokens.{Word, Mark, Token}
use Rattle.source.specs.State.{Names, Routes, Row, Block, Yes, No, If, Skip, Seen, InBody, InField, Statement, Value, BehindYes, ElseOpen, Ask, Tested, Named}
use Rattle.source.specs.Steps.{go, says, is_sign}
use Rattle.source.specs.Bodies.{row, closed}
use Rattle.grammar.specs.Syntax as syntax
use Rattle.grammar.specs.Syntax.{Reference, Set, Add, Relation, Same, Below, Statements, When, Either}
use Rattle.grammar.specs.Spelling as spelling
use Rattle.grammar.specs.Spelling.{Piece, Fits}
use Rattle.grammar.specs.Lookup.{Known, the, field, GoodValue}
use Rattle.grammar.specs.Statements.{operand, test, rows, applied, Good, good_when, good_either}
use Rattle.grammar.proofs.Once.{Once}
use Rattle.grammar.proofs.GoingStatements.{fork, detour}
use Rattle.grammar.proofs.Patching.{patched, patched_again, same_length, block_more, blocks_more}
use Rattle.grammar.proofs.Taking.{After, refuses, next, is_sign_lem, is_word, took_if, took_sign, next_sign, put, put_at, less, by_length}
use Rattle.grammar.proofs.TakingItem.{fewer}
use Rattle.grammar.proofs.TakingFields.{ReferenceRead, reference_read, ValueRead, value_read}
use Rattle.grammar.proofs.TakingStatements as taking

module _ (n : Names) (r : Routes) (T : List TableDeclaration) (g : Seen) where
  abbrev within : List Row → List Block → ℕ → Seen
  within R B a = taking.within n r T g R B a

  abbrev StatementsRead : List Row → List Block → ℕ → List Token → Type 0
  StatementsRead R B a ts = taking.StatementsRead n r T g R B a ts

  abbrev Reads : List Token → Type 0
  Reads ts = taking.Reads n r T g ts

  abbrev fork_of : List Row → ℕ → Test → ℕ → Block
  fork_of R o t a = Yes (fork n r T R o t a)

  abbrev detour_of : ℕ → ℕ → ℕ → Block
  detour_of i p b = No (detour n r T i p b)

  -- a test up to the `{` behind it
  record TestRead (o : ℕ) (R : List Row) (B : List Block) (a : ℕ) (ts : List Token) : Type 0 where
    left : Reference
    how : Relation
    right : syntax.Value
    rest : List Token
    known : Known (field n left)
    good : GoodValue n right
    shallow : length B < 8
    spelt : (js : List Piece) → Fits js rest → Fits (spelling.reference left (spelling.sign (spelling.relation how) ∷ spelling.value right (spelling.sign Open ∷ js))) ts
    less : length rest < length ts
    takes : After (go (InBody Statement) (within (R ++ row o (If (test how (the (field n left)) (operand n right)) 0) ∷ [])
        (fork_of R o (test how (the (field n left)) (operand n right)) a ∷ B) a)) rest g

  abbrev less_of : Relation → Bool
  less_of Same = false
  less_of Below = true

  right_read : (o : ℕ) (R : List Row) (B : List Block) (a : ℕ) (ts us : List Token) (t : Reference) (q : Relation) → Known (field n t) →
      ((js : List Piece) → Fits js us → Fits (spelling.reference t (spelling.sign (spelling.relation q) ∷ js)) ts) → length us < length ts →
      ValueRead (Ask (less_of q) (the (field n t)) o) (within R B a) us g → TestRead o R B a ts
  right_read o R B a ts us t Same k spelt l v =
      took_sign Open v.token _ v.takes (λ c s. took_if (ltb (length B) 8) s
      (λ m s. record {
        left = t;
        how = Same;
        right = v.value;
        rest = v.rest;
        known = k;
        good = v.good;
        shallow = ltb-true _ _ m;
        spelt = λ js f. spelt _ (v.spelt _ (put refl c f));
        less = fewer _ _ _ v.less l;
        takes = s;
      })
      (λ m s. refuses s))
  right_read o R B a ts us t Below k spelt l v =
      took_sign Open v.token _ v.takes (λ c s. took_if (ltb (length B) 8) s
      (λ m s. record {
        left = t;
        how = Below;
        right = v.value;
        rest = v.rest;
        known = k;
        good = v.good;
        shallow = ltb-true _ _ m;
        spelt = λ js f. spelt _ (v.spelt _ (put refl c f));
        less = fewer _ _ _ v.less l;
        takes = s;
      })
      (λ m s. refuses s))

  relation_read : (o : ℕ) (R : List Row) (B : List Block) (a : ℕ) (ts : List Token) (q : Relation) (t : ReferenceRead (Tested o) (within R B a) ts g) →
      t.token.kind ≡ Mark (spelling.relation q) → After (go (InBody (Value (Ask (less_of q) (the (field n t.reference)) o))) (within R B a)) t.rest g → TestRead o R B a ts
  relation_read o R B a ts q t c s =
      next refl s (λ y ys f s. right_read o R B a ts t.rest t.reference q t.known (λ js h. t.spelt _ (put refl c h)) t.less
      (value_read (Ask (less_of q) (the (field n t.reference)) o) (within R B a) g t.rest y ys f s))

  left_read : (o : ℕ) (R : List Row) (B : List Block) (a : ℕ) (ts : List Token) → ReferenceRead (Tested o) (within R B a) ts g → TestRead o R B a ts
  left_read o R B a ts t =
      took_if (is_sign Equals t.token.kind) t.takes
      (λ c s. relation_read o R B a ts Same t (is_sign_lem Equals _ c) s)
      (λ c s. took_sign Less t.token _ s (λ k s. relation_read o R B a ts Below t k s))

  test_read : (o : ℕ) (R : List Row) (B : List Block) (a : ℕ) (ts : List Token) → After (go (InField (Tested o) Named) (within R B a)) ts g → TestRead o R B a ts
  test_read o R B a ts s = next refl s (λ x xs e s. left_read o R B a ts (reference_read (Tested o) (within R B a) g ts x xs e s))

  -- the ends of blocks
  yes_closed : (i o : ℕ) (t : Test) (R I : List Row) (B : List Block) (a b : ℕ) (ts : List Token) →
      After (closed i (within ((R ++ row o (If t 0) ∷ []) ++ I) (fork_of R o t a ∷ B) b)) ts g →
      After (go (InBody (BehindYes (fork n r T R o t a))) (within (R ++ row o (If t (length I)) ∷ I) B b)) ts g
  yes_closed i o t R I B a b ts s =
      subst (λ (Z : List Row). After (go (InBody (BehindYes (fork n r T R o t a))) (within Z B b)) ts g) (patched (λ (m : ℕ). row o (If t m)) R (row o (If t 0)) I (length R) refl) s

  no_closed : (i j p : ℕ) (R O : List Row) (B : List Block) (b c : ℕ) (ts : List Token) → j ≡ length R →
      After (closed i (within ((R ++ row p (Skip 0) ∷ []) ++ O) (detour_of j p b ∷ B) c)) ts g →
      After (go (InBody Statement) (within (R ++ row p (Skip (length O)) ∷ O) B (bit_or b c))) ts g
  no_closed i j p R O B b c ts e s =
      subst (λ (Z : List Row). After (go (InBody Statement) (within Z B (bit_or b c))) ts g) (patched (λ (m : ℕ). row p (Skip m)) R (row p (Skip 0)) O j e) s

  -- an `if` with no `else`
  when_of : (o : ℕ) (R : List Row) (B : List Block) (a : ℕ) (ts us : List Token) (t : Reference) (q : Relation) (v : syntax.Value) (s : Statements) →
      Known (field n t) → GoodValue n v → length B < 8 → Good n (suc (length B)) s → Once n a s →
      ((rest : Statements) (js : List Piece) → Fits (spelling.statements rest js) us → Fits (spelling.statements (When o t q v s rest) js) ts) → length us < length ts →
      StatementsRead (R ++ row o (If (test q (the (field n t)) (operand n v)) (length (rows n s))) ∷ rows n s) B (applied n s a) us → StatementsRead R B a ts
  when_of o R B a ts us t q v s k i h j c spelt l m =
      record {
        statements = When o t q v s m.statements;
        token = m.token;
        rest = m.rest;
        good = good_when k i h j m.good;
        once = (c, m.once);
        closes = m.closes;
        spelt = λ js f. spelt m.statements js (m.spelt js f);
        less = fewer _ _ _ m.less l;
        takes = subst (λ (Z : List Row). taking.Closed n r T g Z B (applied n m.statements (applied n s a)) m.token m.rest)
            (block_more R (row o (If (test q (the (field n t)) (operand n v)) (length (rows n s)))) (rows n s) (rows n m.statements)) m.takes;
      }

  -- an `if` with an `else`
  either_of : (o p : ℕ) (R : List Row) (B : List Block) (a : ℕ) (ts us : List Token) (t : Reference) (q : Relation) (v : syntax.Value) (s z : Statements) →
      Known (field n t) → GoodValue n v → length B < 8 → Good n (suc (length B)) s → Once n a s → Good n (suc (length B)) z → Once n a z →
      ((rest : Statements) (js : List Piece) → Fits (spelling.statements rest js) us → Fits (spelling.statements (Either o t q v s p z rest) js) ts) → length us < length ts →
      StatementsRead ((R ++ row o (If (test q (the (field n t)) (operand n v)) (length (rows n s) + 1)) ∷ rows n s) ++ row p (Skip (length (rows n z))) ∷ rows n z) B
      (bit_or (applied n s a) (applied n z a)) us → StatementsRead R B a ts
  either_of o p R B a ts us t q v s z k i h j c y d spelt l m =
      record {
        statements = Either o t q v s p z m.statements;
        token = m.token;
        rest = m.rest;
        good = good_either k i h j y m.good;
        once = (c, d, m.once);
        closes = m.closes;
        spelt = λ js f. spelt m.statements js (m.spelt js f);
        less = fewer _ _ _ m.less l;
        takes = subst (λ (Z : List Row). taking.Closed n r T g Z B (applied n m.statements (bit_or (applied n s a) (applied n z a))) m.token m.rest)
            (blocks_more R (row o (If (test q (the (field n t)) (operand n v)) (length (rows n s) + 1))) (rows n s) (row p (Skip (length (rows n z)))) (rows n z) (rows n m.statements)) m.takes;
      }

  -- behind `else {`
  other_read : (o p : ℕ) (R : List Row) (B : List Block) (a : ℕ) (ts us : List Token) (t : Reference) (q : Relation) (v : syntax.Value) (s : Statements) →
      Known (field n t) → GoodValue n v → length B < 8 → Good n (suc (length B)) s → Once n a s →
      ((z rest : Statements) (js : List Piece) → Fits (spelling.statements z (spelling.sign Close ∷ spelling.statements rest js)) us → Fits (spelling.statements (Either o t q v s p z rest) js) ts) → length us < length ts →
      ((vs : List Token) → length vs < length ts → Reads vs) →
      StatementsRead ((R ++ row o (If (test q (the (field n t)) (operand n v)) (length (rows n s) + 1)) ∷ rows n s) ++ row p (Skip 0) ∷ [])
      (detour_of (length (R ++ row o (If (test q (the (field n t)) (operand n v)) (length (rows n s))) ∷ rows n s)) p (applied n s a) ∷ B) a us → StatementsRead R B a ts
  other_read o p R B a ts us t q v s k i h j c spelt l rec z =
      either_of o p R B a ts z.rest t q v s z.statements k i h j c z.good z.once
      (λ rest js f. spelt z.statements rest js (z.spelt _ (put refl z.closes f)))
      (fewer _ _ _ z.less l)
      (taking.start n r T g _ B _ z.rest (rec z.rest (fewer _ _ _ z.less l))
      (no_closed z.token.at _ p _ (rows n z.statements) B (applied n s a) (applied n z.statements a) z.rest (same_length R _ _ (rows n s)) z.takes))

  else_read : (o p : ℕ) (R : List Row) (B : List Block) (a : ℕ) (ts us : List Token) (t : Reference) (q : Relation) (v : syntax.Value) (s : Statements) →
      Known (field n t) → GoodValue n v → length B < 8 → Good n (suc (length B)) s → Once n a s →
      ((z rest : Statements) (js : List Piece) → Fits (spelling.sign Open ∷ spelling.statements z (spelling.sign Close ∷ spelling.statements rest js)) us → Fits (spelling.statements (Either o t q v s p z rest) js) ts) →
      length us < length ts → ((vs : List Token) → length vs < length ts → Reads vs) →
      After (go (InBody (ElseOpen (detour n r T (length (R ++ row o (If (test q (the (field n t)) (operand n v)) (length (rows n s))) ∷ rows n s)) p (applied n s a))))
      (within ((R ++ row o (If (test q (the (field n t)) (operand n v)) (length (rows n s) + 1)) ∷ rows n s) ++ row p (Skip 0) ∷ []) B a)) us g → StatementsRead R B a ts
  else_read o p R B a ts us t q v s k i h j y spelt l rec m =
      next_sign Open refl (λ x. refl) m (λ x xs e c m. took_if (ltb (length B) 8) m
      (λ d m. other_read o p R B a ts xs t q v s k i h j y (λ z rest js f. spelt z rest js (put e c f)) (fewer _ _ _ (less e) l) rec
      (taking.start n r T g _ _ a xs (rec xs (fewer _ _ _ (less e) l)) m))
      (λ d m. refuses m))

  -- behind the `}` of a yes block
  behind_read : (o : ℕ) (R : List Row) (B : List Block) (a : ℕ) (ts us : List Token) (t : Reference) (q : Relation) (v : syntax.Value) (s : Statements) →
      Known (field n t) → GoodValue n v → length B < 8 → Good n (suc (length B)) s → Once n a s →
      ((js : List Piece) → Fits js us →
      Fits (spelling.word_at o (codes "if") ∷ spelling.reference t (spelling.sign (spelling.relation q) ∷ spelling.value v (spelling.sign Open ∷ spelling.statements s (spelling.sign Close ∷ js)))) ts) →
      length us < length ts → ((vs : List Token) → length vs < length ts → Reads vs) →
      After (go (InBody (BehindYes (fork n r T R o (test q (the (field n t)) (operand n v)) a)))
      (within (R ++ row o (If (test q (the (field n t)) (operand n v)) (length (rows n s))) ∷ rows n s) B (applied n s a))) us g → StatementsRead R B a ts
  behind_read o R B a ts us t q v s k i h j y spelt l rec m =
      next refl m (λ x xs e m. took_if (says (codes "else") x.kind) m
      (λ c m. else_read o x.at R B a ts xs t q v s k i h j y (λ z rest js f. spelt _ (put_at e (is_word _ _ c) f)) (fewer _ _ _ (less e) l) rec
      (subst (λ (Z : List Row). After (go (InBody (ElseOpen (detour n r T (length (R ++ row o (If (test q (the (field n t)) (operand n v)) (length (rows n s))) ∷ rows n s)) x.at (applied n s a))))
      (within (Z ++ row x.at (Skip 0) ∷ []) B a)) xs g)
      (patched_again (λ (m : ℕ). row o (If (test q (the (field n t)) (operand n v)) m)) R (row o (If (test q (the (field n t)) (operand n v)) (length (rows n s)))) (rows n s)) m))
      (λ c m. when_of o R B a ts us t q v s k i h j y (λ rest js f. spelt _ f) l (rec us l _ B _ x xs e m)))

  block_read : (R : List Row) (B : List Block) (a : ℕ) (ts : List Token) (x : Token) (xs : List Token) → ts ≡ x ∷ xs → x.kind ≡ Word (codes "if") →
      ((vs : List Token) → length vs < length ts → Reads vs) → (t : TestRead x.at R B a xs) →
      StatementsRead (R ++ row x.at (If (test t.how (the (field n t.left)) (operand n t.right)) 0) ∷ [])
      (fork_of R x.at (test t.how (the (field n t.left)) (operand n t.right)) a ∷ B) a t.rest → StatementsRead R B a ts
  block_read R B a ts x xs e c rec t s =
      behind_read x.at R B a ts s.rest t.left t.how t.right s.statements t.known t.good t.shallow s.good s.once
      (λ js f. put_at e c (t.spelt _ (s.spelt _ (put refl s.closes f))))
      (fewer _ _ _ s.less (fewer _ _ _ t.less (less e))) rec
      (yes_closed s.token.at x.at _ R (rows n s.statements) B a (applied n s.statements a) s.rest s.takes)

  if_read : (R : List Row) (B : List Block) (a : ℕ) (ts : List Token) (x : Token) (xs : List Token) → ts ≡ x ∷ xs → x.kind ≡ Word (codes "if") →
      ((vs : List Token) → length vs < length ts → Reads vs) → TestRead x.at R B a xs → StatementsRead R B a ts
  if_read R B a ts x xs e c rec t = block_read R B a ts x xs e c rec t (taking.start n r T g _ _ a t.rest (rec t.rest (fewer _ _ _ t.less (less e))) t.takes)

  statement_read : (ts : List Token) → ((vs : List Token) → length vs < length ts → Reads vs) → Reads ts
  statement_read ts rec R B a x xs e s =
      took_if (is_sign Close x.kind) s (λ c s. taking.none_read n r T g R B a ts x xs e (is_sign_lem Close _ c) s)
      (λ c s. took_if (says (codes "set") x.kind) s (λ c s. taking.alter_read n r T g Set R B a ts x xs e (is_word _ _ c) rec s)
      (λ c s. took_if (says (codes "add") x.kind) s (λ c s. taking.alter_read n r T g Add R B a ts x xs e (is_word _ _ c) rec s)
      (λ c s. took_if (says (codes "apply") x.kind) s (λ c s. taking.use_read n r T g R B a ts x xs e (is_word _ _ c) rec s)
      (λ c s. took_if (says (codes "if") x.kind) s (λ c s. if_read R B a ts x xs e (is_word _ _ c) rec (test_read x.at R B a xs s))
      (λ c s. refuses s)))))

  pub statements_read : (ts : List Token) → Reads ts
  statements_read = by_length Reads statement_read
