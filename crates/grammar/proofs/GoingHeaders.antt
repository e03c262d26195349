-- Headers that are spelt are read.
use Rattle.std.proofs.Common.{◌≡◌, ℕ, ◌+◌, ◌%◌, ◌^◌, ◌<◌, ◌≤◌, min, Bool, true, false, ◌&&◌, ltb, ◌≢◌, List, [], ◌∷◌, is_some, codes, sym, refl, ap, ◌∙◌, subst, subst₂, arith}
use Rattle.std.specs.Str.{bytes_eq}
use Rattle.std.proofs.lemmas.Bool.{cond-true, lt-ltb, eq-eqb, and_from, or_from}
use Rattle.std.proofs.lemmas.Slice.Eq.{bytes_eq-Decides}
use Rattle.token.specs.declared.token.Sign.TheVariants.{Open, Close, Semicolon}
use Rattle.token.specs.Tokens.{Word, Number, Mark}
use Rattle.source.specs.State.{Names, Routes, Tables, Body, Seen, Item, InHeader, FieldName}
use Rattle.source.specs.Declaring.{whole_bytes, more_bits}
use Rattle.grammar.specs.Syntax.{Declared, HeaderItem}
use Rattle.grammar.specs.Spelling as spelling
use Rattle.grammar.specs.Spelling.{Piece, declared, item}
use Rattle.grammar.specs.Program.{Program, seen}
use Rattle.grammar.specs.Headers.{with_field, with_fields, GoodField, GoodFields, bits, next_header, with_header, GoodHeader, add_header}
use Rattle.grammar.proofs.Going.{Goes, stay, next, by, fresh_goes, both_true}

pub other_word : (w v : List ℕ) → w ≢ v → bytes_eq w v ≡ false
other_word w v n = other (bytes_eq w v) refl
  where
    other : (b : Bool) → bytes_eq w v ≡ b → b ≡ false
    other true e = absurd (n ((bytes_eq-Decides w v).0 e))
    other false e = refl

bytes : (b : ℕ) → 0 < b → b % 8 ≡ 0 → b ≤ 256 → whole_bytes (min (0 + b) 257) ≡ true
bytes b s w m =
    let e : min (0 + b) 257 ≡ b = omega arith in
    ap whole_bytes e ∙ and_from _ _ (lt-ltb 0 b s) (and_from _ _ (lt-ltb b 257 (omega arith)) (eq-eqb (b % 8) 0 w))

pub none : (t : ℕ) → min t 257 ≡ min (t + 0) 257
none t = omega arith

pub capped : (t n : ℕ) → more_bits (min t 257) n ≡ min (t + n) 257
capped t n = omega arith

pub more_bits_lem : (t n m : ℕ) → min (t + n + m) 257 ≡ min (t + (n + m)) 257
more_bits_lem t n m = omega arith

narrow_goes : (w : ℕ) → 0 < w → w ≤ 32 → (ltb 0 w && ltb w 33) ≡ true
narrow_goes w s m = and_from _ _ (lt-ltb 0 w s) (lt-ltb w 33 (omega arith))

small : (w : ℕ) → w ≤ 32 → w < 2 ^ 32
small w m = omega arith

module _ (r : Routes) (T : Tables) (b : Body) where
  abbrev at : Names → Seen
  at n = record { names = n; routes = r; tables = T; body = b }

  field_goes : (n : Names) (h t : ℕ) (f : Declared) (ks : List Piece) → GoodField n h f →
      Goes (InHeader (FieldName h t)) (at n) (declared (f ∷ []) ks) (InHeader (FieldName h (more_bits t f.width))) (at (with_field h f n)) ks
  field_goes n h t f ks g =
      next (by (Word f.name) refl (λ i. fresh_goes _ i _ 64 f.name _ (or_from _ _ (other_word _ _ g.other) (ap is_some g.new.unused)) g.new.short g.room))
      (next (by (Number f.width) refl (λ i. both_true (ltb f.width (2 ^ 32)) (ltb 0 f.width && ltb f.width 33) _ _ _ (lt-ltb _ _ (small _ g.narrow)) (narrow_goes _ g.wide g.narrow))) (by (Mark Semicolon) refl (λ i. refl)))

  fields_go : (fs : List Declared) (n : Names) (h t : ℕ) (ks : List Piece) → GoodFields n h fs →
      Goes (InHeader (FieldName h (min t 257))) (at n) (declared fs ks) (InHeader (FieldName h (min (t + bits fs) 257))) (at (with_fields h fs n)) ks
  fields_go [] n h t ks g = subst (λ (m : ℕ). Goes (InHeader (FieldName h (min t 257))) (at n) ks (InHeader (FieldName h m)) (at n) ks) (none t) stay
  fields_go (f ∷ fs) n h t ks g =
      next (field_goes n h (min t 257) f (declared fs ks) g.0)
      (subst₂ (λ (a z : ℕ). Goes (InHeader (FieldName h a)) (at (with_field h f n)) (declared fs ks) (InHeader (FieldName h z)) (at (with_fields h (f ∷ fs) n)) ks)
      (sym (capped t f.width)) (more_bits_lem t f.width (bits fs)) (fields_go fs (with_field h f n) h (t + f.width) ks g.1))

pub header_goes : (p : Program) (w : List ℕ) (fs : List Declared) (ks : List Piece) → GoodHeader p.names w fs →
    Goes Item (seen p) (item (HeaderItem w fs) ks) Item (seen (add_header w fs p)) ks
header_goes p w fs ks g =
    next (by (Word (codes "header")) refl (λ i. refl))
    (next (by (Word w) refl (λ i. fresh_goes _ i _ 8 w _ (ap is_some g.new.unused) g.new.short g.room))
    (next (by (Mark Open) refl (λ i. refl))
    (next (fields_go _ _ _ fs (with_header w p.names) (next_header p.names) 0 (spelling.sign Close ∷ ks) g.fields)
    (by (Mark Close) refl (λ i. cond-true _ _ _ (bytes (bits fs) g.some g.whole g.most))))))
