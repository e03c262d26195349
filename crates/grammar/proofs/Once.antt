-- No path applies a table twice if and only if no table is applied that may have been applied before.
use Rattle.std.proofs.Common.{◌≡◌, ℕ, Bool, true, false, ◌⊎◌, List, [], ◌∷◌, ◌++◌, sym, refl, ap, ◌∙◌, subst, inl, inr}
use lib.Bits.{bit_or}
use Rattle.std.proofs.lemmas.Bool.{true≢false}
use Rattle.source.specs.Names.{find}
use Rattle.source.specs.State.{Names}
use Rattle.source.specs.Bodies.{holds, insert}
use Rattle.grammar.specs.Syntax.{Statements, Empty, Alter, Use, When, Either}
use Rattle.grammar.specs.Lookup.{the}
use Rattle.grammar.specs.Paths.{Path, path_empty, path_alter, path_use, path_inside, path_past, path_yes, path_no, Absent, Distinct}
use Rattle.grammar.specs.Statements.{applied}
use Rattle.grammar.proofs.Sets.{holds_left, holds_right, holds_either, holds_inserted, holds_insert, holds_nothing}

-- each table that is applied is none of those that may have been applied before; a: these
abbrev pub Once : Names → ℕ → Statements → Type 0
Once n a Empty = Unit {0}
Once n a (Alter o v r x rest) = Once n a rest
Once n a (Use o w rest) = (holds a (the (find n.tables w)) ≡ false) × Once n (insert a (the (find n.tables w))) rest
Once n a (When o r q x block rest) = Once n a block × Once n (applied n block a) rest
Once n a (Either o r q x block p other rest) = Once n a block × Once n a other × Once n (bit_or (applied n block a) (applied n other a)) rest

data Has (t : ℕ) : List ℕ → Type 0 where
  here : {u : ℕ} {ts : List ℕ} → t ≡ u → Has t (u ∷ ts)
  there : {u : ℕ} {ts : List ℕ} → Has t ts → Has t (u ∷ ts)

has_left : (t : ℕ) (us ts : List ℕ) → Has t us → Has t (us ++ ts)
has_left t [] ts h = elim h [ ]
has_left t (u ∷ us) ts (here e) = here e
has_left t (u ∷ us) ts (there h) = there (has_left t us ts h)

has_right : (t : ℕ) (us ts : List ℕ) → Has t ts → Has t (us ++ ts)
has_right t [] ts h = h
has_right t (u ∷ us) ts h = there (has_right t us ts h)

has_either : (t : ℕ) (us ts : List ℕ) → Has t (us ++ ts) → Has t us ⊎ Has t ts
has_either t [] ts h = inr h
has_either t (u ∷ us) ts (here e) = inl (here e)
has_either t (u ∷ us) ts (there h) = elim (has_either t us ts h) [ inl k ↦ inl (there k) | inr k ↦ inr k ]

absent_from : (t : ℕ) (ts : List ℕ) → (Has t ts → ⊥) → Absent t ts
absent_from t [] h = tt
absent_from t (u ∷ ts) h = ((λ e. h (here e)), absent_from t ts (λ k. h (there k)))

has_not : (t : ℕ) (ts : List ℕ) → Absent t ts → Has t ts → ⊥
has_not t [] a h = elim h [ ]
has_not t (u ∷ ts) a (here e) = a.0 e
has_not t (u ∷ ts) a (there h) = has_not t ts a.1 h

-- two lists that have no element in common
abbrev Apart : List ℕ → List ℕ → Type 0
Apart us ts = (t : ℕ) → Has t us → Has t ts → ⊥

distinct_both : (us ts : List ℕ) → Distinct us → Distinct ts → Apart us ts → Distinct (us ++ ts)
distinct_both [] ts d e a = e
distinct_both (u ∷ us) ts d e a =
    (absent_from u (us ++ ts) (λ h. elim (has_either u us ts h) [ inl k ↦ has_not u us d.0 k | inr k ↦ a u (here refl) k ]), distinct_both us ts d.1 e (λ t h k. a t (there h) k))

distinct_left : (us ts : List ℕ) → Distinct (us ++ ts) → Distinct us
distinct_left [] ts d = tt
distinct_left (u ∷ us) ts d = (absent_from u us (λ h. has_not u (us ++ ts) d.0 (has_left u us ts h)), distinct_left us ts d.1)

distinct_right : (us ts : List ℕ) → Distinct (us ++ ts) → Distinct ts
distinct_right [] ts d = d
distinct_right (u ∷ us) ts d = distinct_right us ts d.1

distinct_apart : (us ts : List ℕ) → Distinct (us ++ ts) → Apart us ts
distinct_apart [] ts d t h k = elim h [ ]
distinct_apart (u ∷ us) ts d t (here e) k = has_not u (us ++ ts) d.0 (has_right u us ts (subst (λ (m : ℕ). Has m ts) e k))
distinct_apart (u ∷ us) ts d t (there h) k = distinct_apart us ts d.1 t h k

module _ (n : Names) where
  abbrev table_of : List ℕ → ℕ
  table_of w = the (find n.tables w)

  record Some (s : Statements) : Type 0 where
    tables : List ℕ
    path : Path n s tables

  -- there is a path
  some : (s : Statements) → Some s
  some Empty = record { tables = []; path = path_empty }
  some (Alter o v r x rest) = record { tables = (some rest).tables; path = path_alter (some rest).path }
  some (Use o w rest) = record { tables = table_of w ∷ (some rest).tables; path = path_use (some rest).path }
  some (When o r q x block rest) = record { tables = (some rest).tables; path = path_past (some rest).path }
  some (Either o r q x block p other rest) = record { tables = (some block).tables ++ (some rest).tables; path = path_yes (some block).path (some rest).path }

  -- what may have been applied before may have been applied behind
  keeps : (s : Statements) (a t : ℕ) → holds a t ≡ true → holds (applied n s a) t ≡ true
  keeps Empty a t h = h
  keeps (Alter o v r x rest) a t h = keeps rest a t h
  keeps (Use o w rest) a t h = keeps rest _ t (holds_left a _ t h)
  keeps (When o r q x block rest) a t h = keeps rest _ t (keeps block a t h)
  keeps (Either o r q x block p other rest) a t h = keeps rest _ t (holds_left _ _ t (keeps block a t h))

  -- what a path applies may have been applied
  has_applied : (s : Statements) (ts : List ℕ) (a t : ℕ) → Path n s ts → Has t ts → holds (applied n s a) t ≡ true
  has_applied Empty ts a t path_empty h = elim h [ ]
  has_applied (Alter o v r x rest) ts a t (path_alter p) h = has_applied rest ts a t p h
  has_applied (Use o w rest) ts a t (path_use p) (here e) = keeps rest _ t (subst (λ (m : ℕ). holds (insert a (table_of w)) m ≡ true) (sym e) (holds_inserted a (table_of w)))
  has_applied (Use o w rest) ts a t (path_use {ts = us} p) (there h) = has_applied rest us _ t p h
  has_applied (When o r q x block rest) ts a t (path_inside {us = us} {ts = vs} p k) h =
      elim (has_either t us vs h) [ inl i ↦ keeps rest _ t (has_applied block us a t p i) | inr i ↦ has_applied rest vs _ t k i ]
  has_applied (When o r q x block rest) ts a t (path_past k) h = has_applied rest ts _ t k h
  has_applied (Either o r q x block z other rest) ts a t (path_yes {us = us} {ts = vs} p k) h =
      elim (has_either t us vs h) [ inl i ↦ keeps rest _ t (holds_left _ _ t (has_applied block us a t p i)) | inr i ↦ has_applied rest vs _ t k i ]
  has_applied (Either o r q x block z other rest) ts a t (path_no {us = us} {ts = vs} p k) h =
      elim (has_either t us vs h) [ inl i ↦ keeps rest _ t (holds_right _ _ t (has_applied other us a t p i)) | inr i ↦ has_applied rest vs _ t k i ]

  -- a path that applies a table
  record Applies (s : Statements) (t : ℕ) : Type 0 where
    tables : List ℕ
    path : Path n s tables
    has : Has t tables

  -- what may have been applied behind, may have been before, or a path applies it
  applied_by : (s : Statements) (a t : ℕ) → holds (applied n s a) t ≡ true → (holds a t ≡ true) ⊎ Applies s t
  applied_by Empty a t h = inl h
  applied_by (Alter o v r x rest) a t h =
      elim (applied_by rest a t h) [ inl e ↦ inl e | inr p ↦ inr (record { tables = p.tables; path = path_alter p.path; has = p.has }) ]
  applied_by (Use o w rest) a t h =
      elim (applied_by rest _ t h) [
        | inl e ↦ elim (holds_insert a (table_of w) t e) [
          | inl i ↦ inl i
          | inr i ↦ inr (record { tables = table_of w ∷ (some rest).tables; path = path_use (some rest).path; has = here i })
        ]
        | inr p ↦ inr (record { tables = table_of w ∷ p.tables; path = path_use p.path; has = there p.has })
      ]
  applied_by (When o r q x block rest) a t h =
      elim (applied_by rest _ t h) [
        | inl e ↦ elim (applied_by block a t e) [
          | inl i ↦ inl i
          | inr p ↦ inr (record { tables = p.tables ++ (some rest).tables; path = path_inside p.path (some rest).path; has = has_left t p.tables _ p.has })
        ]
        | inr p ↦ inr (record { tables = p.tables; path = path_past p.path; has = p.has })
      ]
  applied_by (Either o r q x block z other rest) a t h =
      elim (applied_by rest _ t h) [
        | inl e ↦ elim (holds_either (applied n block a) (applied n other a) t e) [
          | inl f ↦ elim (applied_by block a t f) [
            | inl i ↦ inl i
            | inr p ↦ inr (record { tables = p.tables ++ (some rest).tables; path = path_yes p.path (some rest).path; has = has_left t p.tables _ p.has })
          ]
          | inr f ↦ elim (applied_by other a t f) [
            | inl i ↦ inl i
            | inr p ↦ inr (record { tables = p.tables ++ (some rest).tables; path = path_no p.path (some rest).path; has = has_left t p.tables _ p.has })
          ]
        ]
        | inr p ↦ inr (record { tables = (some block).tables ++ p.tables; path = path_yes (some block).path p.path; has = has_right t (some block).tables _ p.has })
      ]

  -- a path on which no table is applied twice, or was before
  record Free (a : ℕ) (ts : List ℕ) : Type 0 where
    unapplied : (t : ℕ) → Has t ts → holds a t ≡ true → ⊥
    distinct : Distinct ts

  not_held : (a t : ℕ) → (holds a t ≡ true → ⊥) → holds a t ≡ false
  not_held a t h = by_test (holds a t) h
    where
      by_test : (b : Bool) → (b ≡ true → ⊥) → b ≡ false
      by_test true k = absurd (k refl)
      by_test false k = refl

  free_both : (a b : ℕ) (us ts : List ℕ) → ((t : ℕ) → holds a t ≡ true → holds b t ≡ true) → ((t : ℕ) → Has t us → holds b t ≡ true) → Free a us → Free b ts → Free a (us ++ ts)
  free_both a b us ts k m f g =
      record {
        unapplied = λ t h i. elim (has_either t us ts h) [ inl j ↦ f.unapplied t j i | inr j ↦ g.unapplied t j (k t i) ];
        distinct = distinct_both us ts f.distinct g.distinct (λ t h i. g.unapplied t i (m t h));
      }

  once_free : (s : Statements) (a : ℕ) (ts : List ℕ) → Once n a s → Path n s ts → Free a ts
  once_free Empty a ts o path_empty = record { unapplied = λ t h i. elim h [ ]; distinct = tt }
  once_free (Alter x v r y rest) a ts o (path_alter p) = once_free rest a ts o p
  once_free (Use x w rest) a ts o (path_use {ts = us} p) = used (once_free rest _ us o.1 p)
    where
      used : Free (insert a (table_of w)) us → Free a (table_of w ∷ us)
      used f =
          record {
            unapplied = elim_has;
            distinct = (absent_from (table_of w) us (λ h. f.unapplied (table_of w) h (holds_inserted a (table_of w))), f.distinct);
          }
        where
          elim_has : (t : ℕ) → Has t (table_of w ∷ us) → holds a t ≡ true → ⊥
          elim_has t (here e) i = true≢false (sym i ∙ (ap (holds a) e ∙ o.0))
          elim_has t (there h) i = f.unapplied t h (holds_left a _ t i)
  once_free (When x r q y block rest) a ts o (path_inside {us = us} {ts = vs} p k) =
      free_both a (applied n block a) us vs (λ t i. keeps block a t i) (λ t h. has_applied block us a t p h) (once_free block a us o.0 p) (once_free rest _ vs o.1 k)
  once_free (When x r q y block rest) a ts o (path_past k) =
      free_both a (applied n block a) [] ts (λ t i. keeps block a t i) (λ t h. elim h [ ]) (record { unapplied = λ t h i. elim h [ ]; distinct = tt }) (once_free rest _ ts o.1 k)
  once_free (Either x r q y block z other rest) a ts o (path_yes {us = us} {ts = vs} p k) =
      free_both a (bit_or (applied n block a) (applied n other a)) us vs (λ t i. holds_left _ _ t (keeps block a t i)) (λ t h. holds_left _ _ t (has_applied block us a t p h))
      (once_free block a us o.0 p) (once_free rest _ vs o.2 k)
  once_free (Either x r q y block z other rest) a ts o (path_no {us = us} {ts = vs} p k) =
      free_both a (bit_or (applied n block a) (applied n other a)) us vs (λ t i. holds_left _ _ t (keeps block a t i)) (λ t h. holds_right _ _ t (has_applied other us a t p h))
      (once_free other a us o.1 p) (once_free rest _ vs o.2 k)

  free_left : (a : ℕ) (us ts : List ℕ) → Free a (us ++ ts) → Free a us
  free_left a us ts f = record { unapplied = λ t h i. f.unapplied t (has_left t us ts h) i; distinct = distinct_left us ts f.distinct }

  free_right : (a : ℕ) (us ts : List ℕ) → Free a (us ++ ts) → Free a ts
  free_right a us ts f = record { unapplied = λ t h i. f.unapplied t (has_right t us ts h) i; distinct = distinct_right us ts f.distinct }

  -- behind a block
  free_behind : (s : Statements) (a : ℕ) (ts : List ℕ) → Free a ts → ((us : List ℕ) → Path n s us → Free a (us ++ ts)) → (t : ℕ) → Has t ts → holds (applied n s a) t ≡ true → ⊥
  free_behind s a ts f all t h i =
      elim (applied_by s a t i) [ inl e ↦ f.unapplied t h e | inr p ↦ distinct_apart p.tables ts (all p.tables p.path).distinct t p.has h ]

  free_once : (s : Statements) (a : ℕ) → ((ts : List ℕ) → Path n s ts → Free a ts) → Once n a s
  free_once Empty a all = tt
  free_once (Alter o v r x rest) a all = free_once rest a (λ ts p. all ts (path_alter p))
  free_once (Use o w rest) a all =
      (not_held a (table_of w) ((all _ (path_use (some rest).path)).unapplied (table_of w) (here refl)), free_once rest _ (λ ts p. used ts (all _ (path_use p))))
    where
      used : (ts : List ℕ) → Free a (table_of w ∷ ts) → Free (insert a (table_of w)) ts
      used ts f =
          record {
            unapplied = λ t h i. elim (holds_insert a (table_of w) t i) [
              | inl e ↦ f.unapplied t (there h) e
              | inr e ↦ has_not (table_of w) ts f.distinct.0 (subst (λ (m : ℕ). Has m ts) e h)
            ];
            distinct = f.distinct.1;
          }
  free_once (When o r q x block rest) a all = (
    free_once block a (λ us p. free_left a us _ (all _ (path_inside p (some rest).path))),
    free_once rest _ (λ ts p. record {
      unapplied = free_behind block a ts (all ts (path_past p)) (λ us k. all _ (path_inside k p));
      distinct = (all ts (path_past p)).distinct;
    }),
  )
  free_once (Either o r q x block z other rest) a all = (
    free_once block a (λ us p. free_left a us _ (all _ (path_yes p (some rest).path))),
    free_once other a (λ us p. free_left a us _ (all _ (path_no p (some rest).path))),
    free_once rest _ (λ ts p. either ts p (free_right a _ ts (all _ (path_yes (some block).path p)))),
  )
    where
      either : (ts : List ℕ) → Path n rest ts → Free a ts → Free (bit_or (applied n block a) (applied n other a)) ts
      either ts p f =
          record {
            unapplied = λ t h i. elim (holds_either (applied n block a) (applied n other a) t i) [
              | inl e ↦ free_behind block a ts f (λ us k. all _ (path_yes k p)) t h e
              | inr e ↦ free_behind other a ts f (λ us k. all _ (path_no k p)) t h e
            ];
            distinct = f.distinct;
          }

  -- from the start of `do`
  pub paths_once : (s : Statements) → ((ts : List ℕ) → Path n s ts → Distinct ts) → Once n 0 s
  paths_once s all = free_once s 0 (λ ts p. record { unapplied = λ t h i. true≢false (sym i ∙ holds_nothing t); distinct = all ts p })

  pub once_paths : (s : Statements) → Once n 0 s → (ts : List ℕ) → Path n s ts → Distinct ts
  once_paths s o ts p = (once_free s 0 ts o p).distinct
