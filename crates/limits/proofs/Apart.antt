-- Names that are new are unlike those before them.
use Rattle.std.proofs.Common.{◌≡◌, ℕ, Bool, true, false, cond, ◌&&◌, eqb, List, [], ◌∷◌, ◌++◌, is_some, Some, None, Option, sym, refl, subst, arith}
use Rattle.std.specs.List.{AllByRecursion}
use Rattle.std.specs.Str.{bytes_eq}
use Rattle.std.proofs.ByRecursion.{All-push}
use Rattle.std.proofs.lemmas.Bool.{eq-eqb, and_from, both_ways, false≢true}
use Rattle.source.specs.Names.{Entry, Field, find, find_in}
use Rattle.limits.specs.Naming.{Unlike, FieldUnlike, Apart, FieldsApart}

pub none_there : (o : Option ℕ) → is_some o ≡ false → o ≡ None
none_there (Some n) e = absurd (false≢true (sym e))
none_there None e = refl

same_bytes : (w : List ℕ) → bytes_eq w w ≡ true
same_bytes [] = refl
same_bytes (b ∷ bs) = and_from (eqb b b) (bytes_eq bs bs) (eq-eqb b b refl) (same_bytes bs)

-- a test that failed, and what is behind it
record Missed (b : Bool) (o : Option ℕ) : Type 0 where
  test : b ≡ false
  rest : o ≡ None

missed : (b : Bool) (n : ℕ) (o : Option ℕ) → cond b (Some n) o ≡ None → Missed b o
missed true n o e = let z : ◌≡◌ {A = ℕ} 0 1 = cc in absurd (omega arith)
missed false n o e = record { test = refl; rest = e }

differs : (v w : List ℕ) → bytes_eq v w ≡ false → v ≡ w → ⊥
differs v w t e = both_ways (bytes_eq v w) t (subst (λ (x : List ℕ). bytes_eq v x ≡ true) e (same_bytes v))

pub new_name : (es : List Entry) (w : List ℕ) (n : ℕ) → find es w ≡ None → AllByRecursion (λ e. Unlike e (record { name = w; number = n })) es
unfolding find
new_name [] w n h = tt
new_name (e ∷ es) w n h =
    let m = missed (bytes_eq e.name w) e.number (find es w) h in
    (λ q. differs e.name w m.test (sym q), new_name es w n m.rest)

not_both : (a b : Bool) → (a && b) ≡ false → a ≡ true → b ≡ false
not_both true b h e = h
not_both false b h e = absurd (false≢true e)

pub new_field : (fs : List Field) (w : List ℕ) (k n : ℕ) → find_in fs k w ≡ None → AllByRecursion (λ f. FieldUnlike f (record { name = w; header = k; number = n })) fs
unfolding find_in
new_field [] w k n h = tt
new_field (f ∷ fs) w k n h =
    let m = missed (eqb f.header k && bytes_eq f.name w) f.number (find_in fs k w) h in
    (λ p q. differs f.name w (not_both (eqb f.header k) (bytes_eq f.name w) m.test (eq-eqb f.header k (sym p))) (sym q), new_field fs w k n m.rest)

pub apart_push : (es : List Entry) (x : Entry) → AllByRecursion (λ e. Unlike e x) es → Apart es → Apart (es ++ x ∷ [])
unfolding Apart
apart_push [] x h a = (tt, tt)
apart_push (e ∷ es) x h a = (All-push (Unlike e) es x a.0 h.0, apart_push es x h.1 a.1)

pub fields_apart_push : (fs : List Field) (x : Field) → AllByRecursion (λ f. FieldUnlike f x) fs → FieldsApart fs → FieldsApart (fs ++ x ∷ [])
unfolding FieldsApart
fields_apart_push [] x h a = (tt, tt)
fields_apart_push (f ∷ fs) x h a = (All-push (FieldUnlike f) fs x a.0 h.0, fields_apart_push fs x h.1 a.1)
