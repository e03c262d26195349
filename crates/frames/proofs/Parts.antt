-- A whole frame is its kind byte, its length field and its body, and what follows.
use Rattle.std.proofs.Common.{◌≡◌, ℕ, ◌+◌, ◌≤◌, Bool, true, false, cond, ltb, ◌⊎◌, List, [], ◌∷◌, ◌++◌, length, take, drop, refl, ap, ◌∙◌, inl, inr, arith}
use Rattle.std.proofs.lemmas.List.{take-append-drop, length-append, length-take-le, take_at, drop_at}
use Rattle.std.proofs.lemmas.Bool.{ltb-false, le-ltb, cond-false}
use Rattle.std.proofs.lemmas.Bool.Decides.{nat_tests}
use Rattle.frames.specs.declared.kind.Kind.{Kind}
use Rattle.frames.specs.declared.kind.Kind.TheVariants.{Source, Update, Packet}
use Rattle.frames.specs.declared.opening.Opening.{Opening}
use Rattle.frames.specs.declared.opening.Opening.TheVariants as opening
use Rattle.frames.specs.Laws.{kind_byte}
use Rattle.frames.specs.Reading.{Whole, Cut, number, length_bytes, size, behind_length, behind_kind, opens, opened, read}

pub record Parts (k : Kind) (body rest bs : List ℕ) : Type 0 where
  pub field : List ℕ
  pub long : length field ≡ length_bytes k
  pub says : number field ≡ length body
  pub is : bs ≡ kind_byte k ∷ (field ++ (body ++ rest))

ways : {X : Type 0} (t : Bool) (x y z : X) → cond t x y ≡ z → ((t ≡ true) × (x ≡ z)) ⊎ ((t ≡ false) × (y ≡ z))
ways true x y z e = inl (refl, e)
ways false x y z e = inr (refl, e)

-- a front that is whole is not cut
never : {A : Type 0} (j k : Kind) (body rest : List ℕ) → Cut j ≡ Whole k body rest → A
never j k body rest e = let z : ◌≡◌ {A = ℕ} 0 1 = cc in absurd (omega arith)

record Behind (j k : Kind) (n : ℕ) (bs body rest : List ℕ) : Type 0 where
  same : j ≡ k
  holds : n ≤ length bs
  body_is : take n bs ≡ body
  rest_is : drop n bs ≡ rest

behind_length_lem : (j k : Kind) (n : ℕ) (bs body rest : List ℕ) → behind_length j n bs ≡ Whole k body rest → Behind j k n bs body rest
behind_length_lem j k n bs body rest e =
    elim (ways (ltb (length bs) n) (Cut j) (Whole j (take n bs) (drop n bs)) (Whole k body rest) e) [
      | inl p ↦ never j k body rest p.1
      | inr p ↦ let q = p.1 in record { same = cc; holds = ltb-false (length bs) n p.0; body_is = cc; rest_is = cc }
    ]

pub opens_framed : (b : ℕ) (k : Kind) → opens b ≡ opening.Framed k → b ≡ kind_byte k
opens_framed b Source e = grind (arith, nat_tests)
opens_framed b Update e = grind (arith, nat_tests)
opens_framed b Packet e = grind (arith, nat_tests)

-- a kind byte that opens such a frame, and what was found behind it
from_behind : (b : ℕ) (bs : List ℕ) (j k : Kind) (body rest : List ℕ) → b ≡ kind_byte j → length_bytes j ≤ length bs → Behind j k (number (take (length_bytes j) bs)) (drop (length_bytes j) bs) body rest → Parts k body rest (b ∷ bs)
from_behind b bs j k body rest o h q =
    let n : ℕ = number (take (length_bytes j) bs) in
    let f : length (take (length_bytes j) bs) ≡ length_bytes j = length-take-le (length_bytes j) bs h in
    let g : length (take n (drop (length_bytes j) bs)) ≡ n = length-take-le n (drop (length_bytes j) bs) q.holds in
    let one : take (length_bytes j) bs ++ drop (length_bytes j) bs ≡ bs = take-append-drop (length_bytes j) bs in
    let two : take n (drop (length_bytes j) bs) ++ drop n (drop (length_bytes j) bs) ≡ drop (length_bytes j) bs = take-append-drop n (drop (length_bytes j) bs) in
    let e : j ≡ k = q.same in
    let x : take n (drop (length_bytes j) bs) ≡ body = q.body_is in
    let y : drop n (drop (length_bytes j) bs) ≡ rest = q.rest_is in
    record { field = take (length_bytes j) bs; long = cc; says = cc; is = cc }

-- the parts of what is read as whole behind a kind byte
pub parts_at : (b : ℕ) (k : Kind) (bs : List ℕ) → b ≡ kind_byte k → ltb (length bs) (length_bytes k) ≡ false → ltb (length (drop (length_bytes k) bs)) (number (take (length_bytes k) bs)) ≡ false → Parts k (take (number (take (length_bytes k) bs)) (drop (length_bytes k) bs)) (drop (number (take (length_bytes k) bs)) (drop (length_bytes k) bs)) (b ∷ bs)
parts_at b k bs o long holds =
    let w : ℕ = length_bytes k in
    let n : ℕ = number (take w bs) in
    let d : List ℕ = drop w bs in
    from_behind b bs k k (take n d) (drop n d) o (ltb-false (length bs) w long) (record {
      same = refl;
      holds = ltb-false (length d) n holds;
      body_is = refl;
      rest_is = refl;
    })

opened_parts : (o : Opening) (b : ℕ) (bs : List ℕ) (k : Kind) (body rest : List ℕ) → opens b ≡ o → opened o bs ≡ Whole k body rest → Parts k body rest (b ∷ bs)
opened_parts (opening.Framed j) b bs k body rest o e =
    elim (ways (ltb (length bs) (length_bytes j)) (Cut j) (behind_length j (number (take (length_bytes j) bs)) (drop (length_bytes j) bs)) (Whole k body rest) e) [
      | inl p ↦ never j k body rest p.1
      | inr p ↦
          from_behind b bs j k body rest (opens_framed b j o) (ltb-false (length bs) (length_bytes j) p.0) (behind_length_lem j k (number (take (length_bytes j) bs)) (drop (length_bytes j) bs) body rest p.1)
    ]
opened_parts opening.Pause b bs k body rest o e = let z : ◌≡◌ {A = ℕ} 0 1 = cc in absurd (omega arith)
opened_parts opening.Unknown b bs k body rest o e = let z : ◌≡◌ {A = ℕ} 0 1 = cc in absurd (omega arith)

pub whole_parts : (bs : List ℕ) (k : Kind) (body rest : List ℕ) → read bs ≡ Whole k body rest → Parts k body rest bs
whole_parts [] k body rest e = let z : ◌≡◌ {A = ℕ} 0 1 = cc in absurd (omega arith)
whole_parts (b ∷ bs) k body rest e = opened_parts (opens b) b bs k body rest refl e

-- a whole frame has as many bytes as its parts
pub whole_size : (bs : List ℕ) (k : Kind) (body rest : List ℕ) → read bs ≡ Whole k body rest → length bs ≡ size k body + length rest
whole_size bs k body rest e =
    let p : Parts k body rest bs = whole_parts bs k body rest e in
    let l : length p.field ≡ length_bytes k = p.long in
    let i : length bs ≡ length (kind_byte k ∷ (p.field ++ (body ++ rest))) = ap length p.is in
    omega (arith, length-append p.field (body ++ rest), length-append body rest)

behind_is : (k : Kind) (field body rest : List ℕ) → length field ≡ length_bytes k → number field ≡ length body → behind_kind k (field ++ (body ++ rest)) ≡ Whole k body rest
behind_is k field body rest long says =
    let xs : List ℕ = field ++ (body ++ rest) in
    let t : take (length_bytes k) xs ≡ field = take_at field (body ++ rest) (length_bytes k) long in
    let d : drop (length_bytes k) xs ≡ body ++ rest = drop_at field (body ++ rest) (length_bytes k) long in
    let h : length_bytes k ≤ length xs = omega (arith, length-append field (body ++ rest)) in
    let i : length body ≤ length (body ++ rest) = omega (arith, length-append body rest) in
    let a : behind_kind k xs ≡ behind_length k (number (take (length_bytes k) xs)) (drop (length_bytes k) xs) = cond-false (ltb (length xs) (length_bytes k)) (Cut k) (behind_length k (number (take (length_bytes k) xs)) (drop (length_bytes k) xs)) (le-ltb (length xs) (length_bytes k) h) in
    let b : behind_length k (number (take (length_bytes k) xs)) (drop (length_bytes k) xs) ≡ behind_length k (length body) (body ++ rest) = cc in
    let c : behind_length k (length body) (body ++ rest) ≡ Whole k (take (length body) (body ++ rest)) (drop (length body) (body ++ rest)) = cond-false (ltb (length (body ++ rest)) (length body)) (Cut k) (Whole k (take (length body) (body ++ rest)) (drop (length body) (body ++ rest))) (le-ltb (length (body ++ rest)) (length body) i) in
    let u : take (length body) (body ++ rest) ≡ body = take_at body rest (length body) refl in
    let v : drop (length body) (body ++ rest) ≡ rest = drop_at body rest (length body) refl in
    cc

pub kind_opens : (k : Kind) (bs : List ℕ) → read (kind_byte k ∷ bs) ≡ behind_kind k bs
kind_opens Source bs = refl
kind_opens Update bs = refl
kind_opens Packet bs = refl

pub parts_whole : (k : Kind) (body rest bs : List ℕ) → Parts k body rest bs → read bs ≡ Whole k body rest
parts_whole k body rest bs p =
    ap read p.is ∙ (kind_opens k (p.field ++ (body ++ rest)) ∙ behind_is k p.field body rest p.long p.says)
