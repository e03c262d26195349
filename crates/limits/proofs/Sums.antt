-- The bits of headers, as fields are added and widths are written.
use Rattle.std.proofs.Common.{◌≡◌, ℕ, ◌+◌, ◌/◌, ◌%◌, ◌<◌, ◌≤◌, min, true, cond, eqb, List, [], ◌∷◌, ◌++◌, length, get_or, set, refl, ap, ◌∙◌, ap₂, arith}
use Rattle.std.proofs.lemmas.List.{get_or-set_same, get_or-set_other}
use Rattle.std.proofs.lemmas.Bool.{eq-eqb, ne_eqb, eqb-true, ltb-true, and_parts, cond-true, cond-false}
use Rattle.source.specs.Names.{Field}
use Rattle.source.specs.Declaring.{whole_bytes}
use Rattle.limits.specs.Numbering.{FieldsNumbered, Rising}
use Rattle.limits.specs.Bits.{bits_of, WholeBytes}

bits_push : (fs : List Field) (x : Field) (ws : List ℕ) (h : ℕ) → bits_of (fs ++ x ∷ []) ws h ≡ bits_of fs ws h + cond (eqb x.header h) (get_or ws x.number 0) 0
unfolding bits_of
bits_push [] x ws h = omega arith
bits_push (f ∷ fs) x ws h = omega (arith, bits_push fs x ws h)

-- a header behind those of all fields
pub bits_none : (low count : ℕ) (fs : List Field) (ws : List ℕ) (h : ℕ) → Rising low count fs → count ≤ h → bits_of fs ws h ≡ 0
unfolding bits_of Rising
bits_none low count [] ws h r l = refl
bits_none low count (f ∷ fs) ws h r l =
    let e : cond (eqb f.header h) (get_or ws f.number 0) 0 ≡ 0 = cond-false (eqb f.header h) _ _ (ne_eqb f.header h (λ q. omega (arith, r.1.0))) in
    omega (arith, bits_none f.header count fs ws h r.1.1 l)

-- a width that none of these fields has
bits_set : (i f n : ℕ) (fs : List Field) (ws : List ℕ) (h : ℕ) → FieldsNumbered i fs → i + length fs ≤ f → bits_of fs (set ws f n) h ≡ bits_of fs ws h
unfolding bits_of FieldsNumbered
bits_set i f n [] ws h r l = refl
bits_set i f n (x ∷ xs) ws h r l =
    ap₂ ◌+◌ (ap (λ (w : ℕ). cond (eqb x.header h) w 0) (get_or-set_other ws f x.number n 0 (λ q. omega (arith, r.0)))) (bits_set (i + 1) f n xs ws h r.1 (omega arith))

numbered_front : (i : ℕ) (fs gs : List Field) → FieldsNumbered i (fs ++ gs) → FieldsNumbered i fs
unfolding FieldsNumbered
numbered_front i [] gs h = tt
numbered_front i (f ∷ fs) gs h = (h.0, numbered_front (i + 1) fs gs h.1)

-- the width of the last field, of the header h, is written
pub bits_here : (fs : List Field) (w : List ℕ) (h f n : ℕ) (ws : List ℕ) → FieldsNumbered 1 (fs ++ record { name = w; header = h; number = f } ∷ []) → length fs + 1 ≡ f → f < length ws →
    bits_of (fs ++ record { name = w; header = h; number = f } ∷ []) (set ws f n) h ≡ bits_of fs ws h + n
bits_here fs w h f n ws r e b =
    bits_push fs _ (set ws f n) h
    ∙ ap₂ ◌+◌ (bits_set 1 f n fs ws h (numbered_front 1 fs _ r) (omega arith)) (cond-true (eqb h h) _ _ (eq-eqb h h refl) ∙ get_or-set_same ws f n 0 b)

pub bits_there : (fs : List Field) (w : List ℕ) (h g f n : ℕ) (ws : List ℕ) → FieldsNumbered 1 (fs ++ record { name = w; header = h; number = f } ∷ []) → length fs + 1 ≡ f → g < h →
    bits_of (fs ++ record { name = w; header = h; number = f } ∷ []) (set ws f n) g ≡ bits_of fs ws g
bits_there fs w h g f n ws r e b =
    let z : cond (eqb h g) (get_or (set ws f n) f 0) 0 ≡ 0 = cond-false (eqb h g) _ _ (ne_eqb h g (λ q. omega arith)) in
    let p : bits_of fs (set ws f n) g ≡ bits_of fs ws g = bits_set 1 f n fs ws g (numbered_front 1 fs _ r) (omega arith) in
    bits_push fs _ (set ws f n) g ∙ omega arith

-- the test at the end of a header, where 257 stands for all that is more
pub whole_bytes_lem : (sum bits : ℕ) → min sum 257 ≡ bits → whole_bytes bits ≡ true → WholeBytes sum
whole_bytes_lem sum bits e t =
    let p = and_parts _ _ t in
    let q = and_parts _ _ p.1 in
    let low : 0 < bits = ltb-true 0 bits p.0 in
    let high : bits < 257 = ltb-true bits 257 q.0 in
    let rest : bits % 8 ≡ 0 = eqb-true (bits % 8) 0 q.1 in
    record { bytes = bits / 8; whole = omega arith; some = omega arith; few = omega arith }
