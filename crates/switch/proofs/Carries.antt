-- A packet that was carried through the pipeline holds what it is put together from.
use Rattle.std.proofs.Common.{◌≡◌, ℕ, zero, suc, ◌+◌, ◌-◌, ◌<◌, ◌≤◌, Bool, false, cond, eqb, ltb, List, [], ◌∷◌, ◌++◌, map, length, get_or, replicate, sym, refl, ap, ◌∙◌, ap₂, arith}
use Rattle.std.proofs.lemmas.Bool.{lt-ltb, le-ltb, ne_eqb, cond-true, cond-false}
use Rattle.model.specs.Packet.{Packet, besides}
use Rattle.program.specs.Stands.{over}
use Rattle.program.specs.declared.field.Fields.{Fields}
use Rattle.program.specs.declared.headers.Header.{Header}
use Rattle.packet.specs.Bits.{bits_of_number, bytes_of}
use Rattle.packet.specs.Header.{Widths, size}
use Rattle.packet.specs.Deparsing.{write_fields, write_header, write_headers, deparse}
use Rattle.packet.specs.Carrying.{bytes_from, held}
use Rattle.packet.specs.Stands.{header_of, present_of, holding, fields_of}

pub bytes_from_lem : (p : Packet) (bs : List ℕ) (f : ℕ) → ((i : ℕ) → p (f + i) ≡ get_or bs i 0) → bytes_from (length bs) f p ≡ bs
unfolding bytes_from
bytes_from_lem p [] f h = refl
bytes_from_lem p (b ∷ bs) f h =
    let here : f + 0 ≡ f = omega arith in
    ap₂ (λ (x : ℕ) (xs : List ℕ). x ∷ xs) (ap p (sym here) ∙ h 0)
    (bytes_from_lem p bs (f + 1) (λ i. next i))
  where
    next : (i : ℕ) → p (f + 1 + i) ≡ get_or bs i 0
    next i =
        let e : f + 1 + i ≡ f + suc i = omega arith in
        ap p e ∙ h (suc i)

-- the payload stands from field 66 on
pub payload_at : (x : Fields) (present : ℕ) (bytes : List ℕ) (i : ℕ) → over x (besides present bytes) (66 + i) ≡ get_or bytes i 0
payload_at x present bytes i =
    let far : ltb (66 + i) 64 ≡ false = le-ltb (66 + i) 64 (omega arith) in
    let one : eqb (66 + i) 64 ≡ false = ne_eqb (66 + i) 64 (λ e. omega (arith, e)) in
    let two : eqb (66 + i) 65 ≡ false = ne_eqb (66 + i) 65 (λ e. omega (arith, e)) in
    let back : 66 + i - 66 ≡ i = omega arith in
    cond-false (ltb (66 + i) 64) (get_or x.of (66 + i) 0) (besides present bytes (66 + i)) far
    ∙ (cond-false (eqb (66 + i) 64) present (cond (eqb (66 + i) 65) (length bytes) (get_or bytes (66 + i - 66) 0)) one
    ∙ (cond-false (eqb (66 + i) 65) (length bytes) (get_or bytes (66 + i - 66) 0) two
    ∙ ap (λ (j : ℕ). get_or bytes j 0) back))

field_at : (x : Fields) (base : Packet) (f : ℕ) → f < 64 → over x base f ≡ fields_of x f
field_at x base f h = cond-true (ltb f 64) (get_or x.of f 0) (base f) (lt-ltb f 64 h)

module _ (w : Widths) (p q : Packet) (same : (f : ℕ) → f < 64 → p f ≡ q f) where
  fields_same : (count first : ℕ) → first + count ≤ 64 → write_fields w count first p ≡ write_fields w count first q
  unfolding write_fields
  fields_same zero first h = refl
  fields_same (suc count) first h =
      ap₂ (λ (x : ℕ) (xs : List ℕ). bits_of_number (w first) x ++ xs) (same first (omega (arith, h))) (fields_same count (first + 1) (omega (arith, h)))

  header_same : (h : Header) → write_header w (header_of h) p ≡ write_header w (header_of h) q
  header_same h = ap (λ (bits : List ℕ). bytes_of (size w (header_of h)) (bits ++ replicate 7 0)) (fields_same h.fields h.from h.ok)

  headers_same : (hs : List Header) (number : ℕ) (present : ℕ → Bool) → write_headers w (map header_of hs) number present p ≡ write_headers w (map header_of hs) number present q
  unfolding write_headers
  headers_same [] number present = refl
  headers_same (h ∷ hs) number present =
      ap₂ (λ (bs more : List ℕ). cond (present number) bs [] ++ more) (header_same h) (headers_same hs (number + 1) present)

-- a stored packet is put together as it stands
pub deparses : (w : Widths) (hs : List Header) (x : Fields) (present : ℕ) (bytes : List ℕ) →
    deparse w (map header_of hs) (holding x present bytes) ≡ deparse w (map header_of hs) (held (over x (besides present bytes)))
deparses w hs x present bytes =
    ap₂ (λ (heads payload : List ℕ). heads ++ payload)
    (headers_same w (fields_of x) (over x (besides present bytes)) (λ f h. sym (field_at x (besides present bytes) f h)) hs 0 (present_of present))
    (sym (bytes_from_lem (over x (besides present bytes)) bytes 66 (payload_at x present bytes)))
