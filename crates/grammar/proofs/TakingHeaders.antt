-- Headers that are read are spelt.
use Rattle.std.proofs.Common.{◌≡◌, ℕ, ◌+◌, ◌%◌, ◌<◌, ◌≤◌, min, true, false, ◌&&◌, ltb, List, [], ◌∷◌, length, codes, sym, refl, ap, ◌∙◌, subst, arith}
use Rattle.std.proofs.lemmas.Bool.{ltb-true, eqb-true, and_parts, or_parts}
use Rattle.token.specs.declared.token.Sign.TheVariants.{Open, Close, Semicolon}
use Rattle.token.specs.Tokens.{Word, Mark, Token}
use Rattle.source.specs.State.{Names, Routes, Tables, Body, Seen, Item, InHeader, HeaderName, FieldName}
use Rattle.source.specs.Steps.{go, is_sign}
use Rattle.source.specs.Declaring.{header_taken, field_taken, whole_bytes}
use Rattle.grammar.specs.Syntax.{Declared, HeaderItem}
use Rattle.grammar.specs.Spelling as spelling
use Rattle.grammar.specs.Spelling.{Piece, declared, Fits}
use Rattle.grammar.specs.Program.{Program, seen}
use Rattle.grammar.specs.Headers.{with_field, with_fields, GoodField, GoodFields, bits, next_field, next_header, with_header}
use Rattle.grammar.proofs.GoingHeaders.{none, capped, more_bits_lem}
use Rattle.grammar.proofs.Taking.{After, refuses, next, is_sign_lem, took_if, took_word, took_fresh, next_sign, next_word, next_number, put, less, by_length}
use Rattle.grammar.proofs.TakingItem.{ItemRead, is_none, another, fewer}

abbrev at : Routes → Tables → Body → Names → Seen
at r T b n = record { names = n; routes = r; tables = T; body = b }

-- the fields up to the `}` of their header
record FieldsRead (r : Routes) (T : Tables) (b : Body) (n : Names) (h t : ℕ) (ts : List Token) (g : Seen) : Type 0 where
  fields : List Declared
  rest : List Token
  good : GoodFields n h fields
  whole : whole_bytes (min (t + bits fields) 257) ≡ true
  spelt : (js : List Piece) → Fits js rest → Fits (declared fields (spelling.sign Close ∷ js)) ts
  less : length rest < length ts
  takes : After (go Item (at r T b (with_fields h fields n))) rest g

no_fields : (r : Routes) (T : Tables) (b : Body) (n : Names) (h t : ℕ) (ts : List Token) (g : Seen) (x : Token) (xs : List Token) → ts ≡ x ∷ xs → x.kind ≡ Mark Close →
    whole_bytes (min t 257) ≡ true → After (go Item (at r T b n)) xs g → FieldsRead r T b n h t ts g
no_fields r T b n h t ts g x xs e c w a =
    record { fields = []; rest = xs; good = tt; whole = ap whole_bytes (sym (none t)) ∙ w; spelt = λ js f. put e c f; less = less e; takes = a }

one_field : (r : Routes) (T : Tables) (b : Body) (n : Names) (h t : ℕ) (ts : List Token) (g : Seen) (f : Declared) (zs : List Token) → GoodField n h f →
    ((js : List Piece) → Fits js zs → Fits (declared (f ∷ []) js) ts) → length zs < length ts → FieldsRead r T b (with_field h f n) h (t + f.width) zs g → FieldsRead r T b n h t ts g
one_field r T b n h t ts g f zs good spelt l m =
    record {
      fields = f ∷ m.fields;
      rest = m.rest;
      good = (good, m.good);
      whole = ap whole_bytes (sym (more_bits_lem t f.width (bits m.fields))) ∙ m.whole;
      spelt = λ js k. spelt _ (m.spelt js k);
      less = fewer _ _ _ m.less l;
      takes = m.takes;
    }

good_field : (n : Names) (h : ℕ) (f : Declared) → field_taken n h f.name ≡ false → length f.name ≤ 24 → next_field n < 64 → (ltb 0 f.width && ltb f.width 33) ≡ true → GoodField n h f
good_field n h f o l m w =
    let p = or_parts _ _ o in
    let q = and_parts _ _ w in
    record {
      other = another _ _ p.0;
      new = record { unused = is_none _ p.1; short = l };
      room = m;
      wide = ltb-true _ _ q.0;
      narrow = omega (arith, ltb-true _ _ q.1);
    }

fields_read : (r : Routes) (T : Tables) (b : Body) (h : ℕ) (g : Seen) (ts : List Token) (n : Names) (t : ℕ) →
    After (go (InHeader (FieldName h (min t 257))) (at r T b n)) ts g → FieldsRead r T b n h t ts g
fields_read r T b h g =
    by_length (λ ts. (n : Names) (t : ℕ) → After (go (InHeader (FieldName h (min t 257))) (at r T b n)) ts g → FieldsRead r T b n h t ts g) (λ ts rec n t a.
    next refl a (λ x xs e s. took_if (is_sign Close x.kind) s
    (λ c s. took_if (whole_bytes (min t 257)) s (λ w s. no_fields r T b n h t ts g x xs e (is_sign_lem Close x.kind c) w s) (λ w s. refuses s))
    (λ c s. took_word x _ s (λ w k s. took_fresh (field_taken n h w) x.at _ 64 w _ s (λ o l m s.
    next_number refl (λ y. refl) s (λ y ys v f i u s. took_if (ltb 0 v && ltb v 33) s
    (λ q s. next_sign Semicolon refl (λ z. refl) s (λ z zs j p s.
    one_field r T b n h t ts g (record { name = w; width = v }) zs (good_field n h (record { name = w; width = v }) o l m q)
    (λ js fits. put e k (put f i (put j p fits)))
    (fewer _ _ _ (less j) (fewer _ _ _ (less f) (less e)))
    (rec zs (fewer _ _ _ (less j) (fewer _ _ _ (less f) (less e))) (with_field h (record { name = w; width = v }) n) (t + v)
    (subst (λ (d : ℕ). After (go (InHeader (FieldName h d)) (at r T b (with_field h (record { name = w; width = v }) n))) zs g) (capped t v) s))))
    (λ q s. refuses s)))))))

-- whole bytes, and not too many
bytes_are : (b : ℕ) → whole_bytes (min (0 + b) 257) ≡ true → (0 < b) × (b % 8 ≡ 0) × (b ≤ 256)
bytes_are b e =
    let p = and_parts _ _ e in
    let q = and_parts _ _ p.1 in
    let l = ltb-true 0 (min (0 + b) 257) p.0 in
    let m = ltb-true (min (0 + b) 257) 257 q.0 in
    let same : min (0 + b) 257 ≡ b = omega (arith, m) in
    (omega (arith, l), ap (λ (k : ℕ). k % 8) (sym same) ∙ eqb-true _ _ q.1, omega (arith, m))

header_of_lem : (p : Program) (g : Seen) (ts us : List Token) (w : List ℕ) → header_taken p.names w ≡ false → length w ≤ 24 → next_header p.names < 8 →
    ((js : List Piece) → Fits js us → Fits (spelling.word (codes "header") ∷ spelling.word w ∷ spelling.sign Open ∷ js) ts) → length us < length ts →
    FieldsRead p.routes (seen p).tables (seen p).body (with_header w p.names) (next_header p.names) 0 us g → ItemRead p ts g
header_of_lem p g ts us w o l m spelt k f =
    let b = bytes_are (bits f.fields) f.whole in
    record {
      item = HeaderItem w f.fields;
      rest = f.rest;
      good = record { new = record { unused = is_none _ o; short = l }; room = m; fields = f.good; some = b.0; whole = b.1; most = b.2 };
      spelt = λ js h. spelt _ (f.spelt js h);
      less = fewer _ _ _ f.less k;
      takes = f.takes;
    }

pub header_read : (p : Program) (g : Seen) (ts : List Token) (x : Token) (xs : List Token) → ts ≡ x ∷ xs → x.kind ≡ Word (codes "header") →
    After (go (InHeader HeaderName) (seen p)) xs g → ItemRead p ts g
header_read p g ts x xs e c a =
    next_word refl (λ y. refl) a (λ y ys w f k s. took_fresh (header_taken p.names w) y.at _ 8 w _ s (λ o l m s.
    next_sign Open refl (λ z. refl) s (λ z zs i j s.
    header_of_lem p g ts zs w o l m (λ js h. put e c (put f k (put i j h))) (fewer _ _ _ (less i) (fewer _ _ _ (less f) (less e)))
    (fields_read p.routes (seen p).tables (seen p).body (next_header p.names) g zs (with_header w p.names) 0 s))))
