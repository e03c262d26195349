-- Tables that are read are spelt.
use Rattle.std.proofs.Common.{◌≡◌, ℕ, ◌+◌, ◌<◌, ◌≤◌, true, false, ◌&&◌, ltb, List, [], ◌∷◌, ◌++◌, length, codes, refl, subst, arith}
use Rattle.std.proofs.lemmas.List.{append_assoc, length_push}
use Rattle.std.proofs.lemmas.Bool.{ltb-true, and_parts}
use Rattle.model.specs.Declarations.{TableDeclaration}
use Rattle.token.specs.declared.token.Sign.TheVariants.{Open, Close, Semicolon, Comma}
use Rattle.token.specs.Tokens.{Word, Mark, Token}
use Rattle.source.specs.State.{Names, Routes, Body, Seen, InTable, Listed, Part, Looks, Sets, TableName, ListStart, LinesWord}
use Rattle.source.specs.Steps.{go, is_sign}
use Rattle.source.specs.Tabling.{table_taken}
use Rattle.source.specs.Using.{has_room, add_listed, behind_list, field_named}
use Rattle.grammar.specs.Syntax.{Reference, TableItem}
use Rattle.grammar.specs.Spelling as spelling
use Rattle.grammar.specs.Spelling.{Piece, Fits}
use Rattle.grammar.specs.Lookup.{Known, the, field}
use Rattle.grammar.specs.Program.{Program, seen}
use Rattle.grammar.specs.Tables.{fields_of, AllKnown}
use Rattle.grammar.proofs.GoingTables.{limit, at, added}
use Rattle.grammar.proofs.Taking.{After, refuses, next, is_sign_lem, took_if, took_sign, took_fresh, next_sign, next_keyword, next_word, next_number, put, less, by_length}
use Rattle.grammar.proofs.TakingItem.{ItemRead, is_none, fewer}
use Rattle.grammar.proofs.TakingFields.{ReferenceRead, reference_read}

module _ (n : Names) (r : Routes) (T : List TableDeclaration) (b : Body) (l : Part) (X : List ℕ) (g : Seen) where
  abbrev listed : List ℕ → Seen
  listed L = at n r T b l X L

  room_out : (k : Part) (L : List ℕ) → has_room k (at n r T b k X L) ≡ true → length L < limit k
  room_out Looks L e = ltb-true _ _ e
  room_out Sets L e = ltb-true _ _ e

  -- a field and those behind it, up to the `;`
  record SomeRead (L : List ℕ) (ts : List Token) : Type 0 where
    first : Reference
    others : List Reference
    rest : List Token
    known : AllKnown n (first ∷ others)
    few : length L + length (first ∷ others) ≤ limit l
    spelt : (js : List Piece) → Fits js rest → Fits (spelling.references (first ∷ others) (spelling.sign Semicolon ∷ js)) ts
    less : length rest < length ts
    takes : After (go (InTable (behind_list l)) (listed (L ++ fields_of n (first ∷ others)))) rest g

  last_one : (L : List ℕ) (t : Reference) (x : Token) (ts us : List Token) → Known (field n t) → length L < limit l → x.kind ≡ Mark Semicolon →
      ((js : List Piece) → Fits js (x ∷ us) → Fits (spelling.reference t js) ts) → length us < length ts →
      After (go (InTable (behind_list l)) (add_listed l (the (field n t)) (listed L))) us g → SomeRead L ts
  last_one L t x ts us k h c spelt m a =
      record {
        first = t;
        others = [];
        rest = us;
        known = (k, tt);
        few = omega arith;
        spelt = λ js f. spelt _ (put refl c f);
        less = m;
        takes = subst (λ (d : Seen). After (go (InTable (behind_list l)) d) us g) (added n r T b l X l L (the (field n t))) a;
      }

  one_more : (L : List ℕ) (t : Reference) (x : Token) (ts us : List Token) → Known (field n t) → x.kind ≡ Mark Comma →
      ((js : List Piece) → Fits js (x ∷ us) → Fits (spelling.reference t js) ts) → length us < length ts → SomeRead (L ++ the (field n t) ∷ []) us → SomeRead L ts
  one_more L t x ts us k c spelt m o =
      record {
        first = t;
        others = o.first ∷ o.others;
        rest = o.rest;
        known = (k, o.known);
        few = omega (arith, o.few, length_push L (the (field n t)));
        spelt = λ js f. spelt _ (put refl c (o.spelt js f));
        less = fewer _ _ _ o.less m;
        takes = subst (λ (Z : List ℕ). After (go (InTable (behind_list l)) (listed Z)) o.rest g) (append_assoc L (the (field n t) ∷ []) (fields_of n (o.first ∷ o.others))) o.takes;
      }

  some_read : (ts : List Token) (L : List ℕ) (x : Token) (xs : List Token) → ts ≡ x ∷ xs → After (field_named (Listed l) (listed L) x) xs g → SomeRead L ts
  some_read =
      by_length (λ ts. (L : List ℕ) (x : Token) (xs : List Token) → ts ≡ x ∷ xs → After (field_named (Listed l) (listed L) x) xs g → SomeRead L ts) (λ ts rec L x xs e a.
      let t : ReferenceRead (Listed l) (listed L) ts g = reference_read (Listed l) (listed L) g ts x xs e a in
      took_if (is_sign Comma t.token.kind) t.takes
      (λ c s. next refl s (λ y ys f s.
      one_more L t.reference t.token ts t.rest t.known (is_sign_lem Comma _ c) t.spelt t.less
      (rec t.rest t.less (L ++ the (field n t.reference) ∷ []) y ys f
      (subst (λ (d : Seen). After (field_named (Listed l) d y) ys g) (added n r T b l X l L (the (field n t.reference))) s))))
      (λ c s. took_sign Semicolon t.token _ s (λ k s.
      last_one L t.reference t.token ts t.rest t.known (room_out l L t.has_room_lem) k t.spelt t.less s)))

  -- a list of a table, up to its `;`
  pub record ListRead (ts : List Token) : Type 0 where
    pub references : List Reference
    pub rest : List Token
    pub known : AllKnown n references
    pub few : length references ≤ limit l
    pub spelt : (js : List Piece) → Fits js rest → Fits (spelling.references references (spelling.sign Semicolon ∷ js)) ts
    pub less : length rest < length ts
    pub takes : After (go (InTable (behind_list l)) (listed (fields_of n references))) rest g

  some_list : (ts : List Token) → SomeRead [] ts → ListRead ts
  some_list ts o =
      record { references = o.first ∷ o.others; rest = o.rest; known = o.known; few = omega (arith, o.few); spelt = o.spelt; less = o.less; takes = o.takes }

  pub list_read : (ts : List Token) → After (go (InTable (ListStart l)) (listed [])) ts g → ListRead ts
  list_read ts a =
      next refl a (λ x xs e s. took_if (is_sign Semicolon x.kind) s
      (λ c s. record { references = []; rest = xs; known = tt; few = omega arith; spelt = λ js f. put e (is_sign_lem Semicolon _ c) f; less = less e; takes = s })
      (λ c s. some_list ts (some_read ts [] x xs e s)))

abbrev named : List ℕ → Names → Names
named w n = record {
  headers = n.headers;
  fields = n.fields;
  widths = n.widths;
  tables = n.tables ++ record { name = w; number = length n.tables } ∷ [];
}

-- a name for a table
record Name (p : Program) (w : List ℕ) : Type 0 where
  unused : table_taken p.names w ≡ false
  short : length w ≤ 24
  room : length p.names.tables < 32

abbrev Looked : (p : Program) (w : List ℕ) (g : Seen) → List Token → Type 0
Looked p w g ts = ListRead (named w p.names) p.routes p.tables (seen p).body Looks [] g ts

abbrev Changed : (p : Program) (w : List ℕ) (looks : List Reference) (g : Seen) → List Token → Type 0
Changed p w looks g ts = ListRead (named w p.names) p.routes p.tables (seen p).body Sets (fields_of (named w p.names) looks) g ts

abbrev behind_sets : (p : Program) (w : List ℕ) (looks sets : List Reference) → Seen
behind_sets p w looks sets = at (named w p.names) p.routes p.tables (seen p).body Sets (fields_of (named w p.names) looks) (fields_of (named w p.names) sets)

table_lines : (p : Program) (g : Seen) (ts us : List Token) (w : List ℕ) (looks sets : List Reference) → Name p w →
    AllKnown (named w p.names) looks → length looks ≤ 4 → AllKnown (named w p.names) sets → length sets ≤ 8 →
    ((lines : ℕ) (js : List Piece) → Fits (spelling.word (codes "lines") ∷ spelling.number lines ∷ spelling.sign Semicolon ∷ spelling.sign Close ∷ js) us → Fits (spelling.item (TableItem w looks sets lines) js) ts) →
    length us < length ts → After (go (InTable LinesWord) (behind_sets p w looks sets)) us g → ItemRead p ts g
table_lines p g ts us w looks sets name k l m o spelt h a =
    next_keyword (codes "lines") refl (λ x. refl) a (λ x xs e c s. next_number refl (λ y. refl) s (λ y ys v f i u s. took_if (ltb 0 v && ltb v 257) s
    (λ q s. next_sign Semicolon refl (λ z. refl) s (λ z zs j t s. next_sign Close refl (λ z. refl) s (λ b bs z y s.
    let q = and_parts _ _ q in
    record {
      item = TableItem w looks sets v;
      rest = bs;
      good = record {
        new = record { unused = is_none _ name.unused; short = name.short };
        room = name.room;
        looks_known = k;
        looks_few = l;
        sets_known = m;
        sets_few = o;
        some = ltb-true _ _ q.0;
        most = omega (arith, ltb-true _ _ q.1);
      };
      spelt = λ js fits. spelt v js (put e c (put f i (put j t (put z y fits))));
      less = fewer _ _ _ (less z) (fewer _ _ _ (less j) (fewer _ _ _ (less f) (fewer _ _ _ (less e) h)));
      takes = s;
    })))
    (λ q s. refuses s)))

table_sets : (p : Program) (g : Seen) (ts us : List Token) (w : List ℕ) (looks : List Reference) → Name p w → AllKnown (named w p.names) looks → length looks ≤ 4 →
    ((js : List Piece) → Fits js us → Fits (spelling.word (codes "table") ∷ spelling.word w ∷ spelling.sign Open ∷ spelling.word (codes "look") ∷ spelling.references looks (spelling.sign Semicolon ∷ spelling.word (codes "sets") ∷ js)) ts) →
    length us < length ts → Changed p w looks g us → ItemRead p ts g
table_sets p g ts us w looks name k l spelt h c =
    table_lines p g ts c.rest w looks c.references name k l c.known c.few (λ lines js f. spelt _ (c.spelt _ f)) (fewer _ _ _ c.less h) c.takes

table_looks : (p : Program) (g : Seen) (ts us : List Token) (w : List ℕ) → Name p w →
    ((js : List Piece) → Fits js us → Fits (spelling.word (codes "table") ∷ spelling.word w ∷ spelling.sign Open ∷ spelling.word (codes "look") ∷ js) ts) →
    length us < length ts → Looked p w g us → ItemRead p ts g
table_looks p g ts us w name spelt h c =
    next_keyword (codes "sets") refl (λ x. refl) c.takes (λ x xs e k s.
    table_sets p g ts xs w c.references name c.known c.few (λ js f. spelt _ (c.spelt _ (put e k f))) (fewer _ _ _ (less e) (fewer _ _ _ c.less h))
    (list_read (named w p.names) p.routes p.tables (seen p).body Sets (fields_of (named w p.names) c.references) g xs s))

pub table_read : (p : Program) (g : Seen) (ts : List Token) (x : Token) (xs : List Token) → ts ≡ x ∷ xs → x.kind ≡ Word (codes "table") →
    After (go (InTable TableName) (seen p)) xs g → ItemRead p ts g
table_read p g ts x xs e c a =
    next_word refl (λ y. refl) a (λ y ys w f k s. took_fresh (table_taken p.names w) y.at _ 32 w _ s (λ o l m s.
    next_sign Open refl (λ z. refl) s (λ z zs i j s. next_keyword (codes "look") refl (λ z. refl) s (λ q qs u v s.
    table_looks p g ts qs w (record { unused = o; short = l; room = m }) (λ js fits. put e c (put f k (put i j (put u v fits))))
    (fewer _ _ _ (less u) (fewer _ _ _ (less i) (fewer _ _ _ (less f) (less e))))
    (list_read (named w p.names) p.routes p.tables (seen p).body Looks [] g qs s)))))
