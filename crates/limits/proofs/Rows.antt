-- Rows of names: one more at the end, and what is found in them.
use Rattle.std.proofs.Common.{◌≡◌, ℕ, suc, ◌+◌, ◌<◌, ◌≤◌, Bool, true, false, cond, ◌&&◌, eqb, ◌⊎◌, List, [], ◌∷◌, ◌++◌, length, Some, None, Option, sym, refl, inl, inr, arith}
use Rattle.std.specs.Str.{bytes_eq}
use Rattle.std.proofs.lemmas.Bool.{eqb-true}
use Rattle.source.specs.Names.{Entry, Field, find, find_in, only_behind, only}
use Rattle.source.specs.State.{Names}
use Rattle.source.specs.Declaring.{is_out}
use Rattle.source.specs.Using.{bare}
use Rattle.limits.specs.Numbering.{Numbered, FieldsNumbered, Rising}
use Rattle.limits.specs.Choosing.{Owns}

pub numbered_push : (i n : ℕ) (es : List Entry) (w : List ℕ) → n ≡ i + length es → Numbered i es → Numbered i (es ++ record { name = w; number = n } ∷ [])
unfolding Numbered
numbered_push i n [] w e h = (omega arith, tt)
numbered_push i n (x ∷ xs) w e h = (h.0, numbered_push (i + 1) n xs w (omega arith) h.1)

pub fields_push : (i n : ℕ) (fs : List Field) (w : List ℕ) (h : ℕ) → n ≡ i + length fs → FieldsNumbered i fs → FieldsNumbered i (fs ++ record { name = w; header = h; number = n } ∷ [])
unfolding FieldsNumbered
fields_push i n [] w k e h = (omega arith, tt)
fields_push i n (x ∷ xs) w k e h = (h.0, fields_push (i + 1) n xs w k (omega arith) h.1)

-- a field of the last header
pub rising_push : (low count : ℕ) (fs : List Field) (w : List ℕ) (h n : ℕ) → low ≤ h → h + 1 ≡ count → Rising low count fs → Rising low count (fs ++ record { name = w; header = h; number = n } ∷ [])
unfolding Rising
rising_push low count [] w h n l e r = (l, (omega arith, tt))
rising_push low count (x ∷ xs) w h n l e r = (r.0, (r.1.0, rising_push x.header count xs w h n (omega (arith, r.1.0)) e r.1.1))

-- one more header
pub rising_more : (low count more : ℕ) (fs : List Field) → count ≤ more → Rising low count fs → Rising low more fs
unfolding Rising
rising_more low count more [] l r = tt
rising_more low count more (x ∷ xs) l r = (r.0, (omega (arith, r.1.0), rising_more x.header count more xs l r.1.1))

pub record Between (low high n : ℕ) : Type 0 where
  pub from : low ≤ n
  pub below : n < high

pub some_same : (m n : ℕ) → Some m ≡ Some n → m ≡ n
some_same m n e = cc

pub none_some : {A : Type 0} (n : ℕ) → None ≡ Some n → A
none_some n e = let z : ◌≡◌ {A = ℕ} 0 1 = cc in absurd (omega arith)

found_at : (i n m : ℕ) (b : Bool) (o : Option ℕ) (l : ℕ) → m ≡ i → (o ≡ Some n → Between (i + 1) (i + 1 + l) n) → cond b (Some m) o ≡ Some n → Between i (i + suc l) n
found_at i n m true o l h f e = let k : m ≡ n = some_same m n e in record { from = omega arith; below = omega arith }
found_at i n m false o l h f e = let k : Between (i + 1) (i + 1 + l) n = f e in record { from = omega arith; below = omega arith }

-- what is found has one of the numbers
pub found : (i n : ℕ) (es : List Entry) (w : List ℕ) → Numbered i es → find es w ≡ Some n → Between i (i + length es) n
unfolding Numbered find
found i n [] w h e = none_some n e
found i n (x ∷ xs) w h e = found_at i n x.number (bytes_eq x.name w) (find xs w) (length xs) h.0 (found (i + 1) n xs w h.1) e

pub found_entry : (n : ℕ) (es : List Entry) (w : List ℕ) → Numbered 0 es → find es w ≡ Some n → n < length es
found_entry n es w h e = omega (arith, found 0 n es w h e)

pub found_in : (i n : ℕ) (fs : List Field) (k : ℕ) (w : List ℕ) → FieldsNumbered i fs → find_in fs k w ≡ Some n → Between i (i + length fs) n
unfolding FieldsNumbered find_in
found_in i n [] k w h e = none_some n e
found_in i n (x ∷ xs) k w h e = found_at i n x.number (eqb x.header k && bytes_eq x.name w) (find_in xs k w) (length xs) h.0 (found_in (i + 1) n xs k w h.1) e

pub found_field : (n : ℕ) (fs : List Field) (k : ℕ) (w : List ℕ) → FieldsNumbered 1 fs → find_in fs k w ≡ Some n → n < length fs + 1
found_field n fs k w h e = omega (arith, found_in 1 n fs k w h e)

owns_at : (k n : ℕ) (x : Field) (xs : List Field) (a b : Bool) (o : Option ℕ) → eqb x.header k ≡ a → (o ≡ Some n → Owns k n xs) → cond (a && b) (Some x.number) o ≡ Some n → Owns k n (x ∷ xs)
unfolding Owns
owns_at k n x xs true true o q f e = inl (eqb-true x.header k q, some_same x.number n e)
owns_at k n x xs true false o q f e = inr (f e)
owns_at k n x xs false b o q f e = inr (f e)

-- a field that is found in a header is one of its own
pub found_own : (n : ℕ) (fs : List Field) (k : ℕ) (w : List ℕ) → find_in fs k w ≡ Some n → Owns k n fs
unfolding find_in
found_own n [] k w e = none_some n e
found_own n (x ∷ xs) k w e = owns_at k n x xs (eqb x.header k) (bytes_eq x.name w) (find_in xs k w) refl (found_own n xs k w) e

pub owns_more : (h n : ℕ) (fs gs : List Field) → Owns h n fs → Owns h n (fs ++ gs)
unfolding Owns
owns_more h n [] gs o = absurd o
owns_more h n (f ∷ fs) gs (inl p) = inl p
owns_more h n (f ∷ fs) gs (inr o) = inr (owns_more h n fs gs o)

one_more : (i l n : ℕ) (o : Option ℕ) → (o ≡ Some n) ⊎ Between (i + 1) (i + 1 + l) n → (o ≡ Some n) ⊎ Between i (i + suc l) n
one_more i l n o (inl e) = inl e
one_more i l n o (inr b) = inr (record { from = omega arith; below = omega arith })

only_at : (i l n m : ℕ) (fs : List Field) (w : List ℕ) (b : Bool) → m ≡ i → ((o : Option ℕ) → only_behind o fs w ≡ Some n → (o ≡ Some n) ⊎ Between (i + 1) (i + 1 + l) n) →
    cond b (only_behind (Some m) fs w) (only_behind None fs w) ≡ Some n → (None ≡ Some n) ⊎ Between i (i + suc l) n
only_at i l n m fs w true q f e = here (f (Some m) e)
  where
    here : (Some m ≡ Some n) ⊎ Between (i + 1) (i + 1 + l) n → (None ≡ Some n) ⊎ Between i (i + suc l) n
    here (inl s) = let k : m ≡ n = some_same m n s in inr (record { from = omega arith; below = omega arith })
    here (inr b) = inr (record { from = omega arith; below = omega arith })
only_at i l n m fs w false q f e = one_more i l n None (f None e)

none_at : (i l n m : ℕ) (fs : List Field) (w : List ℕ) (b : Bool) → (only_behind (Some m) fs w ≡ Some n → (Some m ≡ Some n) ⊎ Between (i + 1) (i + 1 + l) n) →
    cond b None (only_behind (Some m) fs w) ≡ Some n → (Some m ≡ Some n) ⊎ Between i (i + suc l) n
none_at i l n m fs w true f e = none_some n e
none_at i l n m fs w false f e = one_more i l n (Some m) (f e)

only_found : (i n : ℕ) (fs : List Field) (w : List ℕ) (o : Option ℕ) → FieldsNumbered i fs → only_behind o fs w ≡ Some n → (o ≡ Some n) ⊎ Between i (i + length fs) n
unfolding FieldsNumbered only_behind
only_found i n [] w o h e = inl e
only_found i n (x ∷ xs) w None h e = only_at i (length xs) n x.number xs w (bytes_eq x.name w) h.0 (λ o. only_found (i + 1) n xs w o h.1) e
only_found i n (x ∷ xs) w (Some m) h e = none_at i (length xs) n m xs w (bytes_eq x.name w) (only_found (i + 1) n xs w (Some m) h.1) e

only_below : (n : ℕ) (fs : List Field) (w : List ℕ) → FieldsNumbered 1 fs → only fs w ≡ Some n → n < length fs + 1
only_below n fs w h e = elim (only_found 1 n fs w None h e) [ inl q ↦ none_some n q | inr b ↦ omega arith ]

-- a bare name stands for one of the fields
pub found_bare : (n : ℕ) (ns : Names) (w : List ℕ) → FieldsNumbered 1 ns.fields → bare ns w ≡ Some n → n < length ns.fields + 1
found_bare n ns w h e = go (is_out w) e
  where
    go : (b : Bool) → cond b (Some 0) (only ns.fields w) ≡ Some n → n < length ns.fields + 1
    go true e = let k : 0 ≡ n = some_same 0 n e in omega arith
    go false e = only_below n ns.fields w h e

same_push : (b : Bool) (m n k : ℕ) (o p : Option ℕ) → ((p ≡ Some k) → (o ≡ Some k) ⊎ (k ≡ n)) → cond b (Some m) p ≡ Some k → (cond b (Some m) o ≡ Some k) ⊎ (k ≡ n)
same_push true m n k o p f e = inl e
same_push false m n k o p f e = f e

-- what is found with one more at the end was found before, or is that one
pub found_push : (hs : List Entry) (v : List ℕ) (n : ℕ) (w : List ℕ) (k : ℕ) → find (hs ++ record { name = v; number = n } ∷ []) w ≡ Some k → (find hs w ≡ Some k) ⊎ (k ≡ n)
unfolding find
found_push [] v n w k e = last (bytes_eq v w) e
  where
    last : (b : Bool) → cond b (Some n) None ≡ Some k → (None ≡ Some k) ⊎ (k ≡ n)
    last true e = inr (sym (some_same n k e))
    last false e = inl e
found_push (x ∷ xs) v n w k e = same_push (bytes_eq x.name w) x.number n k (find xs w) _ (found_push xs v n w k) e
