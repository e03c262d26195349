-- Frames one after the other: what stands at the front, and then the rest.
use Rattle.std.proofs.Common.{◌≡◌, ℕ, zero, suc, ◌+◌, ◌-◌, ◌<◌, ◌≤◌, Bool, true, false, ltb, List, [], ◌∷◌, ◌++◌, length, take, drop, sym, refl, ap, ◌∙◌, arith}
use Rattle.std.proofs.lemmas.Bool.{false≢true, cond_both}
use Rattle.std.proofs.lemmas.List.{append_assoc, length-append, drop_at}
use Rattle.frames.specs.Laws.{kind_byte}
use Rattle.frames.specs.declared.kind.Kind.{Kind}
use Rattle.frames.specs.declared.opening.Opening.{Opening}
use Rattle.frames.specs.declared.opening.Opening.TheVariants as opening
use Rattle.frames.specs.Reading.{Read, Empty, Pause, Whole, Cut, Unknown, read, number, length_bytes, behind_length, behind_kind, opens, opened}
use Rattle.frames.proofs.Parts.{whole_size, whole_parts}
use Rattle.stream.specs.Frames as frames
use Rattle.stream.specs.Frames.{Parts, framed, nothing_whole, behind_frame, on_front, parts_within, parts}

abbrev is_pause : Read → Bool
is_pause Empty = false
is_pause (Pause rest) = true
is_pause (Whole k body rest) = false
is_pause (Cut k) = false
is_pause Unknown = false

no_pause : (k : Kind) (bs : List ℕ) → is_pause (behind_kind k bs) ≡ false
no_pause k bs =
    let n = number (take (length_bytes k) bs) in
    let d = drop (length_bytes k) bs in
    cond_both (ltb (length bs) (length_bytes k)) (Cut k) (behind_length k n d) (λ (r : Read). is_pause r ≡ false) (λ _. refl)
    (λ _. cond_both (ltb (length d) n) (Cut k) (Whole k (take n d) (drop n d)) (λ (r : Read). is_pause r ≡ false) (λ _. refl) (λ _. refl))

pause_opened : (o : Opening) (bs rest : List ℕ) → opened o bs ≡ Pause rest → bs ≡ rest
pause_opened (opening.Framed k) bs rest e = absurd (false≢true (sym (no_pause k bs) ∙ ap is_pause e))
pause_opened opening.Pause bs rest e = cc
pause_opened opening.Unknown bs rest e = absurd (false≢true (ap is_pause e))

-- a pause is one byte
pub pause_size : (bs rest : List ℕ) → read bs ≡ Pause rest → length bs ≡ 1 + length rest
pause_size [] rest e = absurd (false≢true (ap is_pause e))
pause_size (b ∷ bs) rest e =
    let n : length bs ≡ length rest = ap length (pause_opened (opens b) bs rest e) in
    omega (arith, n)

-- where a frame was read, what is left is the rest of the bytes
left_is : (xs rest bs : List ℕ) → bs ≡ xs ++ rest → rest ≡ drop (length bs - length rest) bs
left_is xs rest bs e =
    let n : length bs ≡ length xs + length rest = ap length e ∙ length-append xs rest in
    let m : length bs - length rest ≡ length xs = omega (arith, n) in
    sym ((λ i. drop (m i) (e i)) ∙ drop_at xs rest (length xs) refl)

pub pause_left : (bs rest : List ℕ) → read bs ≡ Pause rest → rest ≡ drop (length bs - length rest) bs
pause_left [] rest e = absurd (false≢true (ap is_pause e))
pause_left (b ∷ bs) rest e = left_is (b ∷ []) rest (b ∷ bs) (ap (λ (l : List ℕ). b ∷ l) (pause_opened (opens b) bs rest e))

pub whole_left : (bs : List ℕ) (k : Kind) (body rest : List ℕ) → read bs ≡ Whole k body rest → rest ≡ drop (length bs - length rest) bs
whole_left bs k body rest e =
    let p = whole_parts bs k body rest e in
    left_is (kind_byte k ∷ (p.field ++ body)) rest bs (p.is ∙ ap (λ (l : List ℕ). kind_byte k ∷ l) (sym (append_assoc p.field body rest)))

module _ (more less : List ℕ → Parts) (bs : List ℕ) (same : (rest : List ℕ) → length rest < length bs → more rest ≡ less rest) where
  fronts_same : (r : Read) → read bs ≡ r → on_front bs more r ≡ on_front bs less r
  fronts_same Empty e = refl
  fronts_same (Pause rest) e = ap (behind_frame frames.Pause) (same rest (omega (arith, pause_size bs rest e)))
  fronts_same (Whole k body rest) e = ap (behind_frame (framed k body)) (same rest (omega (arith, whole_size bs k body rest e)))
  fronts_same (Cut k) e = refl
  fronts_same Unknown e = refl

-- as many turns as there are bytes are enough
enough : (n m : ℕ) (bs : List ℕ) → length bs ≤ n → length bs ≤ m → parts_within n bs ≡ parts_within m bs
unfolding parts_within
enough zero zero bs h l = refl
enough zero (suc m) [] h l = refl
enough zero (suc m) (b ∷ bs) h l = absurd (omega (arith, h))
enough (suc n) zero [] h l = refl
enough (suc n) zero (b ∷ bs) h l = absurd (omega (arith, l))
enough (suc n) (suc m) bs h l =
    fronts_same (parts_within n) (parts_within m) bs (λ rest s. enough n m rest (omega (arith, h, s)) (omega (arith, l, s))) (read bs) refl

step_from : (bs : List ℕ) → parts bs ≡ on_front bs parts (read bs)
unfolding parts_within
step_from [] = refl
step_from (b ∷ bs) =
    fronts_same (parts_within (length bs)) parts (b ∷ bs) (λ rest s. enough (length bs) (length rest) rest (omega (arith, s)) (omega arith)) (read (b ∷ bs)) refl

-- what stands at the front is a frame, and then come the parts of the rest
pub parts_front : (bs : List ℕ) (r : Read) → read bs ≡ r → parts bs ≡ on_front bs parts r
parts_front bs r e = step_from bs ∙ ap (on_front bs parts) e
