-- Counting fields, and picking choices.
use Rattle.std.proofs.Common.{◌≡◌, ℕ, ◌+◌, ◌<◌, ◌≤◌, cond, eqb, ltb, List, [], ◌∷◌, ◌++◌, map, length, get_or, drop, sym, refl, ap, ◌∙◌, arith}
use Rattle.std.proofs.lemmas.List.{drop_more, drop_all, map_push, append_assoc, append-nil}
use Rattle.std.proofs.lemmas.Bool.{ltb-true, ltb-false, eqb-true, eq-eqb, ne_eqb, cond-true, cond-false}
use Rattle.std.specs.List.{count_by}
use Rattle.std.proofs.lemmas.List.Sums.{sum_by-cons}
use Rattle.source.specs.Names.{Entry, fields_of}
use Rattle.source.specs.Stands.{choice_of}
use Rattle.source.specs.declared.name.FieldName.{FieldName}
use Rattle.source.specs.declared.seen.Choice.{Choice}
use Rattle.program.specs.declared.headers.Choice as plain
use Rattle.packet.specs.Header as packet
use Rattle.packet.specs.Stands.{choice_of as plain_of}
use Rattle.compiler.specs.Packaging.{fields_in, fields_before, choices_of, choice}

-- the library's words for how many fields there are
pub before_is : (n : ℕ) (fs : List FieldName) → count_by (λ (f : FieldName). ltb f.header.at n) fs ≡ fields_before n (fields_of fs)
unfolding fields_before
before_is n [] = refl
before_is n (f ∷ fs) = sum_by-cons (λ (x : FieldName). cond (ltb x.header.at n) 1 0) f fs ∙ ap (λ (m : ℕ). cond (ltb f.header.at n) 1 0 + m) (before_is n fs)

pub in_is : (n : ℕ) (fs : List FieldName) → count_by (λ (f : FieldName). eqb f.header.at n) fs ≡ fields_in n (fields_of fs)
unfolding fields_in
in_is n [] = refl
in_is n (f ∷ fs) = sum_by-cons (λ (x : FieldName). cond (eqb x.header.at n) 1 0) f fs ∙ ap (λ (m : ℕ). cond (eqb f.header.at n) 1 0 + m) (in_is n fs)

at_most_one : (a n : ℕ) → cond (ltb a n) 1 0 + cond (eqb a n) 1 0 ≤ 1
at_most_one a n = search (arith, ltb-true, ltb-false, eqb-true)

pub counts_within : (n : ℕ) (fs : List FieldName) → count_by (λ (f : FieldName). ltb f.header.at n) fs + count_by (λ (f : FieldName). eqb f.header.at n) fs ≤ length fs
counts_within n [] = omega arith
counts_within n (f ∷ fs) =
    let b = sum_by-cons (λ (x : FieldName). cond (ltb x.header.at n) 1 0) f fs in
    let o = sum_by-cons (λ (x : FieldName). cond (eqb x.header.at n) 1 0) f fs in
    omega (arith, b, o, at_most_one f.header.at n, counts_within n fs)

pub choices_at : (hs : List Entry) (h : ℕ) (cs : List Choice) (k : ℕ) (c : Choice) → k < length cs → c ≡ get_or cs k c →
    choices_of hs h (map choice_of (drop k cs)) ≡ cond (eqb c.header.at h) (choice hs (choice_of c) ∷ choices_of hs h (map choice_of (drop (k + 1) cs))) (choices_of hs h (map choice_of (drop (k + 1) cs)))
unfolding choices_of
choices_at hs h cs k c l e = rw (drop_more cs k c l, ← e) refl

pub choices_end : (hs : List Entry) (h : ℕ) (cs : List Choice) (k : ℕ) → length cs ≤ k → choices_of hs h (map choice_of (drop k cs)) ≡ []
unfolding choices_of
choices_end hs h cs k l = rw (drop_all k cs l) refl

-- a choice of the header is added to those found
pub picked : (hs : List Entry) (h : ℕ) (cs : List Choice) (k : ℕ) (c : Choice) (xs ys : List plain.Choice) (x : plain.Choice) (all : List packet.Choice) →
    k < length cs → c ≡ get_or cs k c → c.header.at ≡ h → plain_of x ≡ choice hs (choice_of c) → ys ≡ xs ++ (x ∷ []) →
    map plain_of xs ++ choices_of hs h (map choice_of (drop k cs)) ≡ all → map plain_of ys ++ choices_of hs h (map choice_of (drop (k + 1) cs)) ≡ all
picked hs h cs k c xs ys x all l e same is pushed before =
    let rest = choices_of hs h (map choice_of (drop (k + 1) cs)) in
    ap (λ (zs : List plain.Choice). map plain_of zs ++ rest) pushed
    ∙ (ap (λ (zs : List packet.Choice). zs ++ rest) (map_push plain_of xs x)
    ∙ (append_assoc (map plain_of xs) (plain_of x ∷ []) rest
    ∙ (ap (λ (z : packet.Choice). map plain_of xs ++ (z ∷ rest)) is
    ∙ (ap (λ (zs : List packet.Choice). map plain_of xs ++ zs)
    (sym (choices_at hs h cs k c l e ∙ cond-true (eqb c.header.at h) (choice hs (choice_of c) ∷ rest) rest (eq-eqb c.header.at h same)))
    ∙ before))))

-- a choice of another header is passed over
pub passed : (hs : List Entry) (h : ℕ) (cs : List Choice) (k : ℕ) (c : Choice) (xs : List plain.Choice) (all : List packet.Choice) →
    k < length cs → c ≡ get_or cs k c → (c.header.at ≡ h → ⊥) →
    map plain_of xs ++ choices_of hs h (map choice_of (drop k cs)) ≡ all → map plain_of xs ++ choices_of hs h (map choice_of (drop (k + 1) cs)) ≡ all
passed hs h cs k c xs all l e other before =
    let rest = choices_of hs h (map choice_of (drop (k + 1) cs)) in
    ap (λ (zs : List packet.Choice). map plain_of xs ++ zs)
    (sym (choices_at hs h cs k c l e ∙ cond-false (eqb c.header.at h) (choice hs (choice_of c) ∷ rest) rest (ne_eqb c.header.at h other)))
    ∙ before

pub all_picked : (hs : List Entry) (h : ℕ) (cs : List Choice) (k : ℕ) (xs : List plain.Choice) (all : List packet.Choice) → length cs ≤ k →
    map plain_of xs ++ choices_of hs h (map choice_of (drop k cs)) ≡ all → map plain_of xs ≡ all
all_picked hs h cs k xs all l before =
    sym (append-nil (map plain_of xs)) ∙ (ap (λ (zs : List packet.Choice). map plain_of xs ++ zs) (sym (choices_end hs h cs k l)) ∙ before)
