-- The offsets that are out of place: those of a row in two parts, when there are none, and the smallest of them.
use Rattle.std.proofs.Common.{◌≡◌, ℕ, zero, suc, ◌-◌, ◌<◌, ◌≤◌, min, Bool, true, false, cond, ◌&&◌, List, [], ◌∷◌, ◌++◌, length, refl, ap, ◌∙◌, subst, ⊎_elim, zero-le, arith}
use mathlib.Core.List.Memᴰ
use mathlib.Core.List.{Memᴰ, cons≢nil}
use Rattle.std.proofs.lemmas.Bool.{cond_both, and_parts, and_from, cases_lt}
use Rattle.model.specs.Node.{Node, in_place}
use Rattle.model.specs.Placement.{within}
use Rattle.model.specs.Stopping.{misplaced, Lowest, None, At, lower, lowest, noted, Verdict, Placed, Refused, verdict}

-- of a row in two parts: the first part alone if it is too long, else both
pub misplaced_first : (k : ℕ) (most : ℕ) (xs ys : List Node) (os ps : List ℕ) → length os ≡ length xs → most < length xs → misplaced k most (xs ++ ys) (os ++ ps) ≡ misplaced k most xs os
unfolding misplaced
misplaced_first k most [] ys os ps e h = absurd (omega arith)
misplaced_first k most (x ∷ xs) ys [] ps e h = absurd (omega arith)
misplaced_first k zero (x ∷ xs) ys (o ∷ os) ps e h = refl
misplaced_first k (suc most) (x ∷ xs) ys (o ∷ os) ps e h =
    ap (λ (r : List ℕ). cond (in_place k x) r (o ∷ r)) (misplaced_first k most xs ys os ps (omega arith) (omega arith))

pub misplaced_both : (k : ℕ) (most : ℕ) (xs ys : List Node) (os ps : List ℕ) → length os ≡ length xs → length xs ≤ most →
    misplaced k most (xs ++ ys) (os ++ ps) ≡ misplaced k most xs os ++ misplaced k (most - length xs) ys ps
unfolding misplaced
misplaced_both k most [] ys [] ps e h = let q : most ≡ most - 0 = omega arith in ap (λ (z : ℕ). misplaced k z ys ps) q
misplaced_both k most [] ys (o ∷ os) ps e h = absurd (omega arith)
misplaced_both k most (x ∷ xs) ys [] ps e h = absurd (omega arith)
misplaced_both k zero (x ∷ xs) ys (o ∷ os) ps e h = absurd (omega arith)
misplaced_both k (suc most) (x ∷ xs) ys (o ∷ os) ps e h =
    let q : most - length xs ≡ suc most - suc (length xs) = omega arith in
    ap (λ (r : List ℕ). cond (in_place k x) r (o ∷ r)) (misplaced_both k most xs ys os ps (omega arith) (omega arith)) ∙
    out (in_place k x) (misplaced k most xs os) (misplaced k (most - length xs) ys ps) ∙
    ap (λ (z : ℕ). cond (in_place k x) (misplaced k most xs os) (o ∷ misplaced k most xs os) ++ misplaced k z ys ps) q
  where
    out : (b : Bool) (r q : List ℕ) → cond b (r ++ q) (o ∷ (r ++ q)) ≡ cond b r (o ∷ r) ++ q
    out true r q = refl
    out false r q = refl

-- the smallest so far, node by node and part by part
pub lowest_one : (k most : ℕ) (w : Lowest) (n : Node) (ns : List Node) (o : ℕ) (os : List ℕ) →
    lowest w (misplaced k (suc most) (n ∷ ns) (o ∷ os)) ≡ lowest (noted k w n o) (misplaced k most ns os)
unfolding misplaced lowest
lowest_one k most w n ns o os = go (in_place k n) (misplaced k most ns os)
  where
    go : (b : Bool) (r : List ℕ) → lowest w (cond b r (o ∷ r)) ≡ lowest (cond b w (lower w o)) r
    go true r = refl
    go false r = refl

pub lowest_append : (w : Lowest) (os ps : List ℕ) → lowest w (os ++ ps) ≡ lowest (lowest w os) ps
unfolding lowest
lowest_append w [] ps = refl
lowest_append w (o ∷ os) ps = lowest_append (lower w o) os ps

-- none is out of place just if all stand on k stages and are not too many
pub none_to_all : (k : ℕ) (most : ℕ) (ns : List Node) (os : List ℕ) → length os ≡ length ns → misplaced k most ns os ≡ [] → (within k ns ≡ true) × (length ns ≤ most)
unfolding misplaced within
none_to_all k most [] os e h = (refl, zero-le)
none_to_all k most (n ∷ ns) [] e h = absurd (omega arith)
none_to_all k zero (n ∷ ns) (o ∷ os) e h = absurd (cons≢nil h)
none_to_all k (suc most) (n ∷ ns) (o ∷ os) e h =
    cond_both (in_place k n) (misplaced k most ns os) (o ∷ misplaced k most ns os) (λ r. r ≡ [] → (in_place k n && within k ns ≡ true) × (suc (length ns) ≤ suc most))
    (λ i (q : misplaced k most ns os ≡ []). let r = none_to_all k most ns os (omega arith) q in (and_from (in_place k n) (within k ns) i r.0, omega (arith, r.1)))
    (λ i q. absurd (cons≢nil q)) h

pub all_to_none : (k : ℕ) (most : ℕ) (ns : List Node) (os : List ℕ) → within k ns ≡ true → length ns ≤ most → misplaced k most ns os ≡ []
unfolding misplaced within
all_to_none k most [] os w h = refl
all_to_none k most (n ∷ ns) [] w h = refl
all_to_none k zero (n ∷ ns) (o ∷ os) w h = absurd (omega arith)
all_to_none k (suc most) (n ∷ ns) (o ∷ os) w h =
    let a = and_parts (in_place k n) (within k ns) w in
    ap (λ (b : Bool). cond b (misplaced k most ns os) (o ∷ misplaced k most ns os)) a.0 ∙ all_to_none k most ns os a.1 (omega arith)

-- the smallest of some offsets is one of them, and none is smaller
pub record Smallest (os : List ℕ) (w : Lowest) : Type 0 where
  pub offset : ℕ
  pub is : w ≡ At offset
  pub among : Memᴰ offset os
  pub least : (p : ℕ) → Memᴰ p os → offset ≤ p

pub lowest_smallest : (o : ℕ) (os : List ℕ) → Smallest (o ∷ os) (lowest (At o) os)
unfolding lowest
lowest_smallest o [] = record {
  offset = o;
  is = refl;
  among = Memᴰ.head refl;
  least = λ p m. ⊎_elim (λ (e : p ≡ o). omega arith) (λ (i : Memᴰ p []). absurd (Memᴰ.not-nil i)) (Memᴰ.cases_cons m);
}
lowest_smallest o (a ∷ os) =
    let r = lowest_smallest (min a o) os in
    record {
      offset = r.offset;
      is = r.is;
      among =
          ⊎_elim (λ (e : r.offset ≡ min a o).
          ⊎_elim (λ (l : a < o). Memᴰ.tail (Memᴰ.head (omega arith))) (λ (l : o ≤ a). Memᴰ.head (omega arith)) (cases_lt a o))
          (λ (i : Memᴰ r.offset os). Memᴰ.tail (Memᴰ.tail i)) (Memᴰ.cases_cons r.among);
      least = λ p m.
          let h = r.least (min a o) (Memᴰ.head refl) in
          ⊎_elim (λ (e : p ≡ o). omega arith)
          (λ (i : Memᴰ p (a ∷ os)). ⊎_elim (λ (e : p ≡ a). omega arith) (λ (j : Memᴰ p os). r.least p (Memᴰ.tail j)) (Memᴰ.cases_cons i))
          (Memᴰ.cases_cons m);
    }

-- what is told of a row by its offsets out of place
pub placed_to_none : (row : List Node) (os : List ℕ) → verdict row (lowest None os) ≡ Placed row → os ≡ []
unfolding lowest
placed_to_none row [] h = refl
placed_to_none row (o ∷ os) h =
    let e : verdict row (lowest (At o) os) ≡ Refused _ = ap (verdict row) (lowest_smallest o os).is in
    cc

pub none_to_placed : (row : List Node) (os : List ℕ) → os ≡ [] → verdict row (lowest None os) ≡ Placed row
unfolding lowest
none_to_placed row os e = ap (λ (z : List ℕ). verdict row (lowest None z)) e

pub refused_smallest : (row : List Node) (os : List ℕ) (o : ℕ) → verdict row (lowest None os) ≡ Refused o → Memᴰ o os × ((p : ℕ) → Memᴰ p os → o ≤ p)
unfolding lowest
refused_smallest row [] o h = absurd (subst Taken h tt)
  where
    Taken : Verdict → Type 0
    Taken (Placed ns) = Unit {0}
    Taken (Refused p) = ⊥
refused_smallest row (a ∷ os) o h =
    let r = lowest_smallest a os in
    let g : verdict row (lowest (At a) os) ≡ Refused r.offset = ap (verdict row) r.is in
    let e : r.offset ≡ o = cc in
    (subst (λ (z : ℕ). Memᴰ z (a ∷ os)) e r.among, subst (λ (z : ℕ). (p : ℕ) → Memᴰ p (a ∷ os) → z ≤ p) e r.least)
