-- The tables that may have been applied on a path to each statement of a row.
use Rattle.std.proofs.Common.{◌≡◌, ℕ, ◌+◌, ◌<◌, ◌≤◌, true, false, cond, eqb, ◌⊎◌, List, [], ◌∷◌, ◌++◌, length, get_or, set, sym, refl, ap, ◌∙◌, subst, inl, inr, arith}
use Rattle.std.proofs.lemmas.List.{length_push, length-set, get_or-set_same, get_or-set_other, get_or_append_left, get_or_push}
use Rattle.std.proofs.lemmas.Bool.{cases_eq, cases_lt, eq-eqb, ne_eqb, cond-true, cond-false}
use Rattle.source.specs.State.{Doing, Act, Apply, If, Skip, Row, Fork, Detour, Block, Do, Yes, No}
use Rattle.source.specs.Bodies.{row, holds}
use Rattle.limits.proofs.Sets.{Sub, sub_refl, sub_trans}

-- stands where there is no row
abbrev pub blank : Row
blank = row 0 (Skip 0)

-- mark i: the tables on the paths to the statement at i. A statement hands them on to where the paths go, up to the end
abbrev pub Marked : (mark : ℕ → ℕ) (end i : ℕ) → Doing → Type 0
Marked mark end i (Act a) = Sub (mark i) (mark (i + 1))
Marked mark end i (Apply t) = (holds (mark i) t ≡ false) × (Sub (mark i) (mark (i + 1)) × (holds (mark (i + 1)) t ≡ true))
Marked mark end i (If c past) = Sub (mark i) (mark (i + 1)) × ((i + 1 + past ≤ end) × Sub (mark i) (mark (i + 1 + past)))
Marked mark end i (Skip past) = (i + 1 + past ≤ end) × Sub (mark i) (mark (i + 1 + past))

-- marks are the same below n, and grow at n at most
pub record Remarks (mark new : ℕ → ℕ) (n : ℕ) : Type 0 where
  pub same : (i : ℕ) → i < n → new i ≡ mark i
  pub grows : (j : ℕ) → j ≤ n → Sub (mark j) (new j)

pub unchanged : (mark : ℕ → ℕ) (n : ℕ) → Remarks mark mark n
unchanged mark n = record { same = λ i b. refl; grows = λ j b. sub_refl (mark j) }

handed : (mark new : ℕ → ℕ) (n i j : ℕ) → Remarks mark new n → i < n → j ≤ n → Sub (mark i) (mark j) → Sub (new i) (new j)
handed mark new n i j r b c s = subst (λ (x : ℕ). Sub x (new j)) (sym (r.same i b)) (sub_trans (mark i) (mark j) (new j) s (r.grows j c))

pub remarked : (mark new : ℕ → ℕ) (n m i : ℕ) → Remarks mark new n → n ≤ m → i < n → (x : Doing) → Marked mark n i x → Marked new m i x
remarked mark new n m i r l b (Act a) h = handed mark new n i (i + 1) r b (omega arith) h
remarked mark new n m i r l b (Apply t) h =
    (ap (λ (x : ℕ). holds x t) (r.same i b) ∙ h.0, (handed mark new n i (i + 1) r b (omega arith) h.1.0, (r.grows (i + 1) (omega arith)).all t h.1.1))
remarked mark new n m i r l b (If c past) h =
    (handed mark new n i (i + 1) r b (omega arith) h.0, (omega (arith, h.1.0), handed mark new n i (i + 1 + past) r b h.1.0 h.1.1))
remarked mark new n m i r l b (Skip past) h = (omega (arith, h.0), handed mark new n i (i + 1 + past) r b h.0 h.1)

-- one mark is written
abbrev pub put : (ℕ → ℕ) → ℕ → ℕ → ℕ → ℕ
put mark k v j = cond (eqb j k) v (mark j)

pub put_here : (mark : ℕ → ℕ) (k v : ℕ) → put mark k v k ≡ v
put_here mark k v = cond-true (eqb k k) v (mark k) (eq-eqb k k refl)

pub put_other : (mark : ℕ → ℕ) (k v j : ℕ) → (j ≡ k → ⊥) → put mark k v j ≡ mark j
put_other mark k v j h = cond-false (eqb j k) v (mark j) (ne_eqb j k h)

pub one_further : (mark : ℕ → ℕ) (n v : ℕ) → Remarks mark (put mark (n + 1) v) n
one_further mark n v = record {
  same = λ i b. put_other mark (n + 1) v i (λ e. omega arith);
  grows = λ j b. subst (λ (x : ℕ). Sub (mark j) x) (sym (put_other mark (n + 1) v j (λ e. omega arith))) (sub_refl (mark j));
}

pub more_at_end : (mark : ℕ → ℕ) (n v : ℕ) → Sub (mark n) v → Remarks mark (put mark n v) n
more_at_end mark n v s = record { same = λ i b. put_other mark n v i (λ e. omega arith); grows = λ j b. grown j (cases_eq j n) }
  where
    grown : (j : ℕ) → (j ≡ n) ⊎ (j ≡ n → ⊥) → Sub (mark j) (put mark n v j)
    grown j (inl e) = subst (λ (x : ℕ). Sub (mark x) (put mark n v x)) (sym e) (subst (λ (x : ℕ). Sub (mark n) x) (sym (put_here mark n v)) s)
    grown j (inr q) = subst (λ (x : ℕ). Sub (mark j) x) (sym (put_other mark n v j q)) (sub_refl (mark j))

-- indices of skips whose no blocks are open
unfoldable pub Among : List ℕ → ℕ → Type 0
Among [] i = ⊥
Among (k ∷ ks) i = (i ≡ k) ⊎ Among ks i

pub among_first : (k : ℕ) (ks : List ℕ) → Among (k ∷ ks) k
unfolding Among
among_first k ks = inl refl

pub among_more : (k : ℕ) (ks : List ℕ) (i : ℕ) → Among ks i → Among (k ∷ ks) i
unfolding Among
among_more k ks i a = inr a

pub among_others : (k : ℕ) (ks : List ℕ) (i : ℕ) → (i ≡ k → ⊥) → Among (k ∷ ks) i → Among ks i
unfolding Among
among_others k ks i h (inl e) = absurd (h e)
among_others k ks i h (inr a) = a

-- every row but those hands its tables on
pub record Each (pend : List ℕ) (mark : ℕ → ℕ) (end : ℕ) (rows : List Row) : Type 0 where
  pub at : (i : ℕ) → i < length rows → Among pend i ⊎ Marked mark end i (get_or rows i blank).doing

also : {A B C : Type 0} → A ⊎ B → (B → C) → A ⊎ C
also (inl a) f = inl a
also (inr b) f = inr (f b)

either : {A B C D : Type 0} → A ⊎ B → (A → C) → (B → D) → C ⊎ D
either (inl a) f g = inl (f a)
either (inr b) f g = inr (g b)

pub each_remarked : (pend : List ℕ) (mark new : ℕ → ℕ) (n m : ℕ) (rows : List Row) → Remarks mark new n → n ≤ m → length rows ≤ n → Each pend mark n rows → Each pend new m rows
each_remarked pend mark new n m rows r l b h = record { at = λ i c. also (h.at i c) (remarked mark new n m i r l (omega arith) (get_or rows i blank).doing) }

pub each_pushed : (pend : List ℕ) (mark : ℕ → ℕ) (end : ℕ) (rows : List Row) (r : Row) → Each pend mark end rows → Among pend (length rows) ⊎ Marked mark end (length rows) r.doing → Each pend mark end (rows ++ r ∷ [])
each_pushed pend mark end rows r h new = record { at = λ i b. go i b (cases_lt i (length rows)) }
  where
    go : (i : ℕ) → i < length (rows ++ r ∷ []) → (i < length rows) ⊎ (length rows ≤ i) → Among pend i ⊎ Marked mark end i (get_or (rows ++ r ∷ []) i blank).doing
    go i b (inl c) = subst (λ (x : Row). Among pend i ⊎ Marked mark end i x.doing) (sym (get_or_append_left rows (r ∷ []) blank i c)) (h.at i c)
    go i b (inr c) =
        let e : length rows ≡ i = omega (arith, length_push rows r) in
        subst (λ (x : Row). Among pend i ⊎ Marked mark end i x.doing) (sym (get_or_push rows r blank i e)) (subst (λ (j : ℕ). Among pend j ⊎ Marked mark end j r.doing) e new)

pub each_put : (pend left : List ℕ) (mark new : ℕ → ℕ) (n m : ℕ) (rows : List Row) (k : ℕ) (r : Row) → Remarks mark new n → n ≤ m → length rows ≡ n → k < n →
    ((i : ℕ) → (i ≡ k → ⊥) → Among pend i → Among left i) → Marked new m k r.doing → Each pend mark n rows → Each left new m (set rows k r)
each_put pend left mark new n m rows k r q l e b keep here h = record { at = λ i c. go i c (cases_eq i k) }
  where
    go : (i : ℕ) → i < length (set rows k r) → (i ≡ k) ⊎ (i ≡ k → ⊥) → Among left i ⊎ Marked new m i (get_or (set rows k r) i blank).doing
    go i c (inl s) = subst (λ (j : ℕ). Among left j ⊎ Marked new m j (get_or (set rows k r) j blank).doing) (sym s) (inr (subst (λ (x : Row). Marked new m k x.doing) (sym (get_or-set_same rows k r blank (omega arith))) here))
    go i c (inr s) =
        let i-there : i < length rows = omega (arith, length-set rows k r) in
        subst (λ (x : Row). Among left i ⊎ Marked new m i x.doing) (sym (get_or-set_other rows k i r blank s))
        (either (h.at i i-there) (keep i s) (remarked mark new n m i q l (omega arith) (get_or rows i blank).doing))

-- an if whose yes block is open, and whose tables are among these
pub record ForkMarked (mark : ℕ → ℕ) (n top : ℕ) (f : Fork) : Type 0 where
  pub there : f.index < n
  pub is : mark f.index ≡ f.before
  pub inner : Sub f.before (mark (f.index + 1))
  pub below : Sub f.before top

-- a skip whose no block, begun with the tables of base, is open
pub record DetourMarked (mark : ℕ → ℕ) (n top base : ℕ) (t : Detour) : Type 0 where
  pub there : t.index < n
  pub is : mark t.index ≡ t.applied
  pub below : Sub base top

-- open blocks: what was applied before each was applied before those within it
unfoldable pub Chained : (mark : ℕ → ℕ) (n top : ℕ) → List Block → Type 0
Chained mark n top [] = Unit {0}
Chained mark n top (Do ∷ bs) = Chained mark n top bs
Chained mark n top (Yes f ∷ bs) = ForkMarked mark n top f × Chained mark n f.before bs
Chained mark n top (No t ∷ bs) = (base : ℕ) × DetourMarked mark n top base t × Chained mark n base bs

pub chain_top : (mark : ℕ → ℕ) (n top more : ℕ) (bs : List Block) → Sub top more → Chained mark n top bs → Chained mark n more bs
unfolding Chained
chain_top mark n top more [] s c = tt
chain_top mark n top more (Do ∷ bs) s c = chain_top mark n top more bs s c
chain_top mark n top more (Yes f ∷ bs) s c = (record { there = c.0.there; is = c.0.is; inner = c.0.inner; below = sub_trans f.before top more c.0.below s }, c.1)
chain_top mark n top more (No t ∷ bs) s c = (c.0, record { there = c.1.there; is = c.1.is; below = sub_trans c.0 top more c.1.below s }, c.2)

pub chain_remarked : (mark new : ℕ → ℕ) (n m top : ℕ) (bs : List Block) → Remarks mark new n → n ≤ m → Chained mark n top bs → Chained new m top bs
unfolding Chained
chain_remarked mark new n m top [] r l c = tt
chain_remarked mark new n m top (Do ∷ bs) r l c = chain_remarked mark new n m top bs r l c
chain_remarked mark new n m top (Yes f ∷ bs) r l c = (
  record {
    there = omega (arith, c.0.there);
    is = r.same f.index c.0.there ∙ c.0.is;
    inner = sub_trans f.before (mark (f.index + 1)) (new (f.index + 1)) c.0.inner (r.grows (f.index + 1) (omega (arith, c.0.there)));
    below = c.0.below;
  },
  chain_remarked mark new n m f.before bs r l c.1,
)
chain_remarked mark new n m top (No t ∷ bs) r l c =
    (c.0, record { there = omega (arith, c.1.there); is = r.same t.index c.1.there ∙ c.1.is; below = c.1.below }, chain_remarked mark new n m c.0 bs r l c.2)

unfoldable pub pending : List Block → List ℕ
pending [] = []
pending (Do ∷ bs) = pending bs
pending (Yes f ∷ bs) = pending bs
pending (No t ∷ bs) = t.index ∷ pending bs

-- marks for all rows, the open blocks and the tables that are applied by now
pub record Trace (pend : List ℕ) (rows : List Row) (applied : ℕ) (blocks : List Block) : Type 0 where
  pub mark : ℕ → ℕ
  pub now : mark (length rows) ≡ applied
  pub each : Each pend mark (length rows) rows
  pub chain : Chained mark (length rows) applied blocks
