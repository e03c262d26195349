-- A frame as it is written: the length field says the body's length, and what is read covers the input.
use Rattle.std.proofs.Common.{◌≡◌, ℕ, ◌+◌, ◌*◌, ◌/◌, ◌%◌, ◌^◌, ◌<◌, ltb, ◌⊎◌, List, [], ◌∷◌, ◌++◌, length, take, drop, refl, ap, subst, inl, inr, append_assoc, arith}
use native.Mathlib.Nat.{div-div-eq-div-mul}
use Rattle.std.proofs.lemmas.Bool.{cases_lt, cond_both}
use Rattle.std.proofs.lemmas.Bool.Decides.{nat_tests}
use Rattle.frames.specs.declared.kind.Kind.{Kind}
use Rattle.frames.specs.declared.kind.Kind.TheVariants.{Source, Update, Packet}
use Rattle.frames.specs.declared.opening.Opening.{Opening}
use Rattle.frames.specs.declared.opening.Opening.TheVariants as opening
use Rattle.frames.specs.Answering.{four_bytes}
use Rattle.frames.specs.Laws.{Bytes, kind_byte, length_field, frame, Covers, Framing, RoundTrip}
use Rattle.frames.specs.Reading.{Whole, Cut, number, length_bytes, behind_length, opens, opened}
use Rattle.frames.proofs.Parts.{Parts, opens_framed, parts_at, parts_whole}

-- four bytes hold each number that fits
four_says : (n : ℕ) → n < 4294967296 → number (four_bytes n) ≡ n
four_says n h =
    let x : n / 256 / 256 ≡ n / 65536 = div-div-eq-div-mul n 256 256 in
    let y : n / 65536 / 256 ≡ n / 16777216 = div-div-eq-div-mul n 65536 256 in
    let p : n ≡ n / 256 * 256 + n % 256 = omega arith in
    let q : n / 256 ≡ n / 65536 * 256 + n / 256 % 256 = omega arith in
    let r : n / 65536 ≡ n / 16777216 * 256 + n / 65536 % 256 = omega arith in
    let s : n / 16777216 % 256 ≡ n / 16777216 = omega arith in
    omega arith

two_says : (n : ℕ) → n < 65536 → number ((n / 256 % 256) ∷ ((n % 256) ∷ [])) ≡ n
two_says n h = omega arith

field_says : (k : Kind) (n : ℕ) → n < 256 ^ length_bytes k → number (length_field k n) ≡ n
field_says Source n h = four_says n h
field_says Update n h = four_says n h
field_says Packet n h = two_says n h

field_long : (k : Kind) (n : ℕ) → length (length_field k n) ≡ length_bytes k
field_long Source n = refl
field_long Update n = refl
field_long Packet n = refl

pub round_trip : RoundTrip
round_trip k body rest h =
    parts_whole k body rest (frame k body ++ rest) (record {
      field = length_field k (length body);
      long = field_long k (length body);
      says = field_says k (length body) h;
      is = ap (λ xs. kind_byte k ∷ xs) (append_assoc (length_field k (length body)) body rest);
    })

-- and there is one way only to write a number in so many bytes
four_is : (f : List ℕ) → length f ≡ 4 → Bytes f → f ≡ four_bytes (number f)
four_is [] l h = absurd (omega arith)
four_is (a ∷ []) l h = absurd (omega arith)
four_is (a ∷ (b ∷ [])) l h = absurd (omega arith)
four_is (a ∷ (b ∷ (c ∷ []))) l h = absurd (omega arith)
four_is (a ∷ (b ∷ (c ∷ (d ∷ [])))) l h =
    let n : ℕ = number (a ∷ (b ∷ (c ∷ (d ∷ [])))) in
    let p : a ≡ n / 16777216 % 256 = omega arith in
    let q : b ≡ n / 65536 % 256 = omega arith in
    let r : c ≡ n / 256 % 256 = omega arith in
    let s : d ≡ n % 256 = omega arith in
    cc
four_is (a ∷ (b ∷ (c ∷ (d ∷ (e ∷ f))))) l h = absurd (omega arith)

two_is : (f : List ℕ) → length f ≡ 2 → Bytes f → f ≡ (number f / 256 % 256) ∷ ((number f % 256) ∷ [])
two_is [] l h = absurd (omega arith)
two_is (a ∷ []) l h = absurd (omega arith)
two_is (a ∷ (b ∷ [])) l h =
    let n : ℕ = number (a ∷ (b ∷ [])) in
    let p : a ≡ n / 256 % 256 = omega arith in
    let q : b ≡ n % 256 = omega arith in
    cc
two_is (a ∷ (b ∷ (c ∷ f))) l h = absurd (omega arith)

field_is : (k : Kind) (f : List ℕ) → length f ≡ length_bytes k → Bytes f → f ≡ length_field k (number f)
field_is Source f l h = four_is f l h
field_is Update f l h = four_is f l h
field_is Packet f l h = two_is f l h

bytes_front : (xs ys : List ℕ) → Bytes (xs ++ ys) → Bytes xs
bytes_front [] ys h = tt
bytes_front (x ∷ xs) ys h = (h.0, bytes_front xs ys h.1)

covers_whole : (k : Kind) (body rest bs : List ℕ) → Bytes bs → Parts k body rest bs → bs ≡ frame k body ++ rest
covers_whole k body rest bs h p =
    let i : bs ≡ kind_byte k ∷ (p.field ++ (body ++ rest)) = p.is in
    let g : Bytes (kind_byte k ∷ (p.field ++ (body ++ rest))) = subst Bytes i h in
    let f : p.field ≡ length_field k (number p.field) = field_is k p.field p.long (bytes_front p.field (body ++ rest) g.1) in
    let s : number p.field ≡ length body = p.says in
    let e : (length_field k (length body) ++ body) ++ rest ≡ length_field k (length body) ++ (body ++ rest) = append_assoc (length_field k (length body)) body rest in
    cc

covers_framed : (k : Kind) (b : ℕ) (bs : List ℕ) → b ≡ kind_byte k → Bytes (b ∷ bs) → Covers (b ∷ bs) (opened (opening.Framed k) bs)
covers_framed k b bs o h =
    let w : ℕ = length_bytes k in
    let n : ℕ = number (take w bs) in
    let d : List ℕ = drop w bs in
    cond_both (ltb (length bs) w) (Cut k) (behind_length k n d) (Covers (b ∷ bs)) (λ _. (bs, ap (λ x. x ∷ bs) o)) (λ long.
    cond_both (ltb (length d) n) (Cut k) (Whole k (take n d) (drop n d)) (Covers (b ∷ bs)) (λ _. (bs, ap (λ x. x ∷ bs) o)) (λ holds.
    covers_whole k (take n d) (drop n d) (b ∷ bs) h (parts_at b k bs o long holds)))

opens_pause : (b : ℕ) → opens b ≡ opening.Pause → b ≡ 4
opens_pause b e = grind (arith, nat_tests)

opens_nothing : (b : ℕ) → opens b ≡ opening.Unknown → (b ≡ 0) ⊎ (4 < b)
opens_nothing b e = elim (cases_lt 4 b) [ inl h ↦ inr h | inr h ↦ inl (grind (arith, nat_tests)) ]

covers_opened : (o : Opening) (b : ℕ) (bs : List ℕ) → opens b ≡ o → Bytes (b ∷ bs) → Covers (b ∷ bs) (opened o bs)
covers_opened (opening.Framed k) b bs e h = covers_framed k b bs (opens_framed b k e) h
covers_opened opening.Pause b bs e h = ap (λ x. x ∷ bs) (opens_pause b e)
covers_opened opening.Unknown b bs e h = (b, bs, refl, opens_nothing b e)

pub framing : Framing
framing [] h = refl
framing (b ∷ bs) h = covers_opened (opens b) b bs refl h
