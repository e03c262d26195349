-- Texts that are cut at a byte which the part before it doesn't have.
use Rattle.std.proofs.Common.{◌≡◌, ℕ, ◌+◌, ◌%◌, ◌^◌, ◌<◌, true, not, ◌&&◌, eqb, leb, List, [], ◌∷◌, ◌++◌, decimal, sym, refl, ap, ◌∙◌, arith}
use Rattle.std.proofs.lemmas.Bool.{and_parts, and_from, not-true, not_from_false, eqb-false, ne_eqb, le-leb}
use Rattle.std.proofs.lemmas.Fmt.{decimal_by_steps}
use Rattle.listing.specs.Alike.{without, digits_only}

heads : {x y : ℕ} {xs ys : List ℕ} → x ∷ xs ≡ y ∷ ys → x ≡ y
heads e = cc

tails : {x y : ℕ} {xs ys : List ℕ} → x ∷ xs ≡ y ∷ ys → xs ≡ ys
tails e = cc

-- two texts that go on with c, and don't have it before
pub cut : (c : ℕ) (a b r s : List ℕ) → without c a ≡ true → without c b ≡ true → a ++ (c ∷ r) ≡ b ++ (c ∷ s) → (a ≡ b) × (r ≡ s)
cut c [] [] r s ha hb e = (refl, tails e)
cut c [] (y ∷ b) r s ha hb e = absurd (eqb-false y c (not-true (eqb y c) (and_parts (not (eqb y c)) (without c b) hb).0) (sym (heads e)))
cut c (x ∷ a) [] r s ha hb e = absurd (eqb-false x c (not-true (eqb x c) (and_parts (not (eqb x c)) (without c a) ha).0) (heads e))
cut c (x ∷ a) (y ∷ b) r s ha hb e =
    let more = cut c a b r s (and_parts (not (eqb x c)) (without c a) ha).1 (and_parts (not (eqb y c)) (without c b) hb).1 (tails e) in
    let first : x ≡ y = heads e in
    (ap (λ (z : ℕ). z ∷ a) first ∙ ap (λ (l : List ℕ). y ∷ l) more.0, more.1)

pub without_append : (c : ℕ) (a b : List ℕ) → without c a ≡ true → without c b ≡ true → without c (a ++ b) ≡ true
without_append c [] b ha hb = hb
without_append c (x ∷ a) b ha hb =
    let parts = and_parts (not (eqb x c)) (without c a) ha in
    and_from (not (eqb x c)) (without c (a ++ b)) parts.0 (without_append c a b parts.1 hb)

digits_append : (a b : List ℕ) → digits_only a ≡ true → digits_only b ≡ true → digits_only (a ++ b) ≡ true
digits_append [] b ha hb = hb
digits_append (x ∷ a) b ha hb =
    let parts = and_parts (leb 48 x && leb x 57) (digits_only a) ha in
    and_from (leb 48 x && leb x 57) (digits_only (a ++ b)) parts.0 (digits_append a b parts.1 hb)

-- what is printed of a number has digits only
pub record Plain (ds : List ℕ) : Type 0 where
  pub digits : digits_only ds ≡ true
  pub no_space : without 32 ds ≡ true
  pub no_line : without 10 ds ≡ true
  pub no_colon : without 58 ds ≡ true

one_digit : (d : ℕ) → d < 10 → Plain ((48 + d) ∷ [])
one_digit d h = record {
  digits = and_from (leb 48 (48 + d) && leb (48 + d) 57) true (and_from (leb 48 (48 + d)) (leb (48 + d) 57) (le-leb 48 (48 + d) (omega arith)) (le-leb (48 + d) 57 (omega arith))) refl;
  no_space = other 32 (omega arith);
  no_line = other 10 (omega arith);
  no_colon = other 58 (omega arith);
}
  where
    other : (c : ℕ) → (48 + d ≡ c → ⊥) → without c ((48 + d) ∷ []) ≡ true
    other c ne = and_from (not (eqb (48 + d) c)) true (not_from_false (eqb (48 + d) c) (ne_eqb (48 + d) c ne)) refl

more_digits : (ds es : List ℕ) → Plain ds → Plain es → Plain (ds ++ es)
more_digits ds es p q = record {
  digits = digits_append ds es p.digits q.digits;
  no_space = without_append 32 ds es p.no_space q.no_space;
  no_line = without_append 10 ds es p.no_line q.no_line;
  no_colon = without_append 58 ds es p.no_colon q.no_colon;
}

pub decimal_plain : (n : ℕ) → n < 2 ^ 64 → Plain (decimal n)
decimal_plain n h =
    decimal_by_steps (λ (n : ℕ) (ds : List ℕ). Plain ds) (λ n l. one_digit n l)
    (λ n ds l p. let small : n % 10 < 10 = omega arith in more_digits ds ((48 + n % 10) ∷ []) p (one_digit (n % 10) small)) n h
