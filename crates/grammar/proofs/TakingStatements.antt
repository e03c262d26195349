-- Statements that are read are spelt.
use Rattle.std.proofs.Common.{◌≡◌, ℕ, ◌<◌, Bool, true, false, List, [], ◌∷◌, ◌++◌, length, codes, sym, refl, ap, ◌∙◌, subst}
use Rattle.std.proofs.lemmas.List.{append-nil}
use Rattle.model.specs.Declarations.{TableDeclaration}
use Rattle.token.specs.declared.token.Sign.TheVariants.{Close, Semicolon, Is}
use Rattle.token.specs.Tokens.{Word, Mark, Token}
use Rattle.source.specs.Names.{find}
use Rattle.source.specs.State.{Names, Routes, Row, Block, Apply, Seen, InBody, InField, Statement, ApplyName, Change, Target, Named}
use Rattle.source.specs.Steps.{go}
use Rattle.source.specs.Bodies.{row, holds, insert, statement, closed}
use Rattle.grammar.specs.Syntax as syntax
use Rattle.grammar.specs.Syntax.{Reference, Verb, Set, Add, Statements, Empty, Alter, Use}
use Rattle.grammar.specs.Spelling as spelling
use Rattle.grammar.specs.Spelling.{Piece, Fits}
use Rattle.grammar.specs.Lookup.{Known, the, field, GoodValue}
use Rattle.grammar.specs.Statements.{rows, applied, Good, good_empty, good_alter, good_use}
use Rattle.grammar.proofs.Once.{Once}
use Rattle.grammar.proofs.GoingStatements.{at}
use Rattle.grammar.proofs.Patching as patching
use Rattle.grammar.proofs.Taking.{After, refuses, next, took_if, took_sign, took_known, next_sign, next_word, put, put_at, less}
use Rattle.grammar.proofs.TakingItem.{is_known, is_the, fewer}
use Rattle.grammar.proofs.TakingFields.{ReferenceRead, reference_read, ValueRead, value_read}

module _ (n : Names) (r : Routes) (T : List TableDeclaration) (g : Seen) where
  abbrev pub within : List Row → List Block → ℕ → Seen
  within R B a = at n r T R B a

  -- the statements up to the `}` of their block
  pub record StatementsRead (R : List Row) (B : List Block) (a : ℕ) (ts : List Token) : Type 0 where
    pub statements : Statements
    pub token : Token
    pub rest : List Token
    pub good : Good n (length B) statements
    pub once : Once n a statements
    pub closes : token.kind ≡ Mark Close
    pub spelt : (js : List Piece) → Fits js (token ∷ rest) → Fits (spelling.statements statements js) ts
    pub less : length rest < length ts
    pub takes : After (closed token.at (within (R ++ rows n statements) B (applied n statements a))) rest g

  -- that tokens which begin with a statement are read so
  abbrev pub Reads : List Token → Type 0
  Reads ts = (R : List Row) (B : List Block) (a : ℕ) (x : Token) (xs : List Token) → ts ≡ x ∷ xs → After (statement (within R B a) x) xs g → StatementsRead R B a ts

  pub start : (R : List Row) (B : List Block) (a : ℕ) (ts : List Token) → Reads ts → After (go (InBody Statement) (within R B a)) ts g → StatementsRead R B a ts
  start R B a ts h s = next refl s (λ x xs e s. h R B a x xs e s)

  abbrev pub Closed : List Row → List Block → ℕ → Token → List Token → Type 0
  Closed R B a x xs = After (closed x.at (within R B a)) xs g

  pub none_read : (R : List Row) (B : List Block) (a : ℕ) (ts : List Token) (x : Token) (xs : List Token) → ts ≡ x ∷ xs → x.kind ≡ Mark Close → Closed R B a x xs → StatementsRead R B a ts
  none_read R B a ts x xs e c s =
      record {
        statements = Empty;
        token = x;
        rest = xs;
        good = good_empty;
        once = tt;
        closes = c;
        spelt = λ js f. subst (Fits js) (sym e) f;
        less = less e;
        takes = subst (λ (Z : List Row). Closed Z B a x xs) (sym (append-nil R)) s;
      }

  -- a `set` or an `add`
  alter_of : (o : ℕ) (v : Verb) (t : Reference) (y : syntax.Value) (R : List Row) (B : List Block) (a : ℕ) (ts us : List Token) → Known (field n t) → GoodValue n y →
      ((js : List Piece) → Fits js us → Fits (spelling.statements (Alter o v t y Empty) js) ts) → length us < length ts →
      StatementsRead (R ++ rows n (Alter o v t y Empty)) B a us → StatementsRead R B a ts
  alter_of o v t y R B a ts us k i spelt l m =
      record {
        statements = Alter o v t y m.statements;
        token = m.token;
        rest = m.rest;
        good = good_alter k i m.good;
        once = m.once;
        closes = m.closes;
        spelt = λ js f. spelt _ (m.spelt js f);
        less = fewer _ _ _ m.less l;
        takes = subst (λ (Z : List Row). Closed Z B (applied n m.statements a) m.token m.rest) (patching.one_more R _ (rows n m.statements)) m.takes;
      }

  abbrev adds : Verb → Bool
  adds Set = false
  adds Add = true

  altered_read : (o : ℕ) (v : Verb) (t : Reference) (R : List Row) (B : List Block) (a : ℕ) (ts us : List Token) → Known (field n t) →
      ((js : List Piece) → Fits js us → Fits (spelling.word_at o (spelling.verb v) ∷ spelling.reference t (spelling.sign Is ∷ js)) ts) → length us < length ts →
      ((vs : List Token) → length vs < length ts → Reads vs) → ValueRead (Change (adds v) (the (field n t)) o) (within R B a) us g → StatementsRead R B a ts
  altered_read o Set t R B a ts us k spelt l rec y =
      took_sign Semicolon y.token _ y.takes (λ c s.
      alter_of o Set t y.value R B a ts y.rest k y.good (λ js f. spelt _ (y.spelt _ (put refl c f))) (fewer _ _ _ y.less l)
      (start _ B a y.rest (rec y.rest (fewer _ _ _ y.less l)) s))
  altered_read o Add t R B a ts us k spelt l rec y =
      took_sign Semicolon y.token _ y.takes (λ c s.
      alter_of o Add t y.value R B a ts y.rest k y.good (λ js f. spelt _ (y.spelt _ (put refl c f))) (fewer _ _ _ y.less l)
      (start _ B a y.rest (rec y.rest (fewer _ _ _ y.less l)) s))

  target_read : (v : Verb) (R : List Row) (B : List Block) (a : ℕ) (ts : List Token) (x : Token) (xs : List Token) → ts ≡ x ∷ xs → x.kind ≡ Word (spelling.verb v) →
      ((vs : List Token) → length vs < length ts → Reads vs) → ReferenceRead (Target (adds v) x.at) (within R B a) xs g → StatementsRead R B a ts
  target_read v R B a ts x xs e c rec t =
      took_sign Is t.token _ t.takes (λ k s. next refl s (λ y ys f s.
      altered_read x.at v t.reference R B a ts t.rest t.known (λ js h. put_at e c (t.spelt _ (put refl k h))) (fewer _ _ _ t.less (less e)) rec
      (value_read (Change (adds v) (the (field n t.reference)) x.at) (within R B a) g t.rest y ys f s)))

  pub alter_read : (v : Verb) (R : List Row) (B : List Block) (a : ℕ) (ts : List Token) (x : Token) (xs : List Token) → ts ≡ x ∷ xs → x.kind ≡ Word (spelling.verb v) →
      ((vs : List Token) → length vs < length ts → Reads vs) → After (go (InField (Target (adds v) x.at) Named) (within R B a)) xs g → StatementsRead R B a ts
  alter_read v R B a ts x xs e c rec s =
      next refl s (λ y ys f s. target_read v R B a ts x xs e c rec (reference_read (Target (adds v) x.at) (within R B a) g xs y ys f s))

  -- an `apply`
  use_of : (o : ℕ) (w : List ℕ) (R : List Row) (B : List Block) (a : ℕ) (ts us : List Token) → Known (find n.tables w) → holds a (the (find n.tables w)) ≡ false →
      ((js : List Piece) → Fits js us → Fits (spelling.statements (Use o w Empty) js) ts) → length us < length ts →
      StatementsRead (R ++ rows n (Use o w Empty)) B (applied n (Use o w Empty) a) us → StatementsRead R B a ts
  use_of o w R B a ts us k i spelt l m =
      record {
        statements = Use o w m.statements;
        token = m.token;
        rest = m.rest;
        good = good_use k m.good;
        once = (i, m.once);
        closes = m.closes;
        spelt = λ js f. spelt _ (m.spelt js f);
        less = fewer _ _ _ m.less l;
        takes = subst (λ (Z : List Row). Closed Z B (applied n (Use o w m.statements) a) m.token m.rest) (patching.one_more R _ (rows n m.statements)) m.takes;
      }

  pub use_read : (R : List Row) (B : List Block) (a : ℕ) (ts : List Token) (x : Token) (xs : List Token) → ts ≡ x ∷ xs → x.kind ≡ Word (codes "apply") →
      ((vs : List Token) → length vs < length ts → Reads vs) → After (go (InBody (ApplyName x.at)) (within R B a)) xs g → StatementsRead R B a ts
  use_read R B a ts x xs e c rec s =
      next_word refl (λ y. refl) s (λ y ys w f k s. took_known y.at (find n.tables w) _ s (λ t i s. took_if (holds a t) s
      (λ o s. refuses s)
      (λ o s. next_sign Semicolon refl (λ z. refl) s (λ z zs j l s.
      use_of x.at w R B a ts zs (is_known _ t i) (ap (holds a) (is_the _ t i) ∙ o) (λ js h. put_at e c (put f k (put j l h)))
      (fewer _ _ _ (less j) (fewer _ _ _ (less f) (less e)))
      (start _ B _ zs (rec zs (fewer _ _ _ (less j) (fewer _ _ _ (less f) (less e))))
      (subst (λ (m : ℕ). After (go (InBody Statement) (within (R ++ row x.at (Apply m) ∷ []) B (insert a m))) zs g) (sym (is_the _ t i)) s))))))
