-- Numbers and their bits.
use Rattle.std.proofs.Common.{◌≡◌, ℕ, zero, suc, ◌+◌, ◌-◌, ◌*◌, ◌/◌, ◌%◌, ◌^◌, ◌<◌, ◌≤◌, List, [], ◌∷◌, ◌++◌, length, get_or, take, drop, replicate, sym, refl, ap, ◌∙◌, ap₂, add_assoc, mul_assoc, add-mul, add_comm, suc-add, zero-add, arith, pow_mono}
use Rattle.std.proofs.lemmas.List.{length-append, append_assoc, append-nil, length-drop, length-take-le, drop-drop, drop_at, take_at, take_all}
use Rattle.std.proofs.lemmas.Nat.{pow_pos, pow-add, shr-shr, shr_high, mod_low, mod_below, mod-pow-add, field_of, div_below, mul-add-lt}
use Rattle.packet.specs.Bits.{bits_of_number, bits_of, number_of, bytes_of}

-- a number has as many bits as it is asked for
pub length_bits_of_number : (w x : ℕ) → length (bits_of_number w x) ≡ w
unfolding bits_of_number
length_bits_of_number zero x = refl
length_bits_of_number (suc w) x = ap suc (length_bits_of_number w x)

-- eight for each byte
pub length_bits : (bs : List ℕ) → length (bits_of bs) ≡ 8 * length bs
unfolding bits_of
length_bits [] = refl
length_bits (b ∷ bs) = length-append (bits_of_number 8 b) (bits_of bs) ∙ omega (arith, length_bits_of_number 8 b, length_bits bs)

-- each of these is a bit
abbrev pub Bits : List ℕ → Type 0
Bits [] = Unit {0}
Bits (b ∷ bs) = (b < 2) × Bits bs

pub bits_of_number_lem : (w x : ℕ) → Bits (bits_of_number w x)
unfolding bits_of_number
bits_of_number_lem zero x = tt
bits_of_number_lem (suc w) x = (omega arith, bits_of_number_lem w x)

pub bits_append : (xs ys : List ℕ) → Bits xs → Bits ys → Bits (xs ++ ys)
bits_append [] ys h k = k
bits_append (x ∷ xs) ys h k = (h.0, bits_append xs ys h.1 k)

pub bits_of_lem : (bs : List ℕ) → Bits (bits_of bs)
unfolding bits_of
bits_of_lem [] = tt
bits_of_lem (b ∷ bs) = bits_append (bits_of_number 8 b) (bits_of bs) (bits_of_number_lem 8 b) (bits_of_lem bs)

pub bits_take : (n : ℕ) (xs : List ℕ) → Bits xs → Bits (take n xs)
bits_take zero xs h = tt
bits_take (suc n) [] h = tt
bits_take (suc n) (x ∷ xs) h = (h.0, bits_take n xs h.1)

pub bits_drop : (n : ℕ) (xs : List ℕ) → Bits xs → Bits (drop n xs)
bits_drop zero xs h = h
bits_drop (suc n) [] h = tt
bits_drop (suc n) (x ∷ xs) h = bits_drop n xs h.1

pow_suc : (n : ℕ) → 2 ^ suc n ≡ 2 * 2 ^ n
pow_suc n = ap (λ (m : ℕ). 2 ^ m) (omega arith) ∙ pow-add 2 1 n

-- bits stand for a number below the power of their count
pub number_below : (xs : List ℕ) → Bits xs → number_of xs < 2 ^ length xs
unfolding number_of
number_below [] h = omega arith
number_below (zero ∷ xs) h = omega (arith, pow_suc (length xs), number_below xs h.1)
number_below (suc zero ∷ xs) h = omega (arith, pow_suc (length xs), number_below xs h.1)
number_below (suc (suc n) ∷ xs) h = absurd (omega (arith, h.0))

-- the bits in front count by the power of the count behind them
pub number_append : (xs ys : List ℕ) → number_of (xs ++ ys) ≡ number_of xs * 2 ^ length ys + number_of ys
unfolding number_of
number_append [] ys = omega arith
number_append (x ∷ xs) ys =
    ap₂ (λ (m n : ℕ). x * m + n) (ap (λ (k : ℕ). 2 ^ k) (length-append xs ys) ∙ pow-add 2 (length xs) (length ys)) (number_append xs ys)
    ∙ ap (λ (n : ℕ). n + (number_of xs * 2 ^ length ys + number_of ys)) (sym (mul_assoc x (2 ^ length xs) (2 ^ length ys)))
    ∙ sym (add_assoc (x * 2 ^ length xs * 2 ^ length ys) (number_of xs * 2 ^ length ys) (number_of ys))
    ∙ ap (λ (n : ℕ). n + number_of ys) (sym (add-mul (x * 2 ^ length xs) (number_of xs) (2 ^ length ys)))

-- bits of a number stand for its remainder
pub number_of_bits : (w x : ℕ) → number_of (bits_of_number w x) ≡ x % 2 ^ w
unfolding number_of bits_of_number
number_of_bits zero x = omega arith
number_of_bits (suc w) x =
    ap₂ (λ (m n : ℕ). x / 2 ^ w % 2 * 2 ^ m + n) (length_bits_of_number w x) (number_of_bits w x)
    ∙ sym (mod-pow-add x 1 w) ∙ ap (λ (m : ℕ). x % 2 ^ m) (omega arith)

-- the bits between: what stands behind is shifted off, and what stands in front is the quotient
pub number_between : (xs ys zs : List ℕ) → Bits ys → Bits zs →
    number_of (xs ++ (ys ++ zs)) / 2 ^ length zs % 2 ^ length ys ≡ number_of ys
number_between xs ys zs hy hz =
    ap (λ (n : ℕ). n / 2 ^ length zs % 2 ^ length ys) (ap number_of (sym (append_assoc xs ys zs)) ∙ number_append (xs ++ ys) zs)
    ∙ ap (λ (n : ℕ). n % 2 ^ length ys) (shr_high (number_of (xs ++ ys)) (length zs) (number_of zs) (number_below zs hz))
    ∙ ap (λ (n : ℕ). n % 2 ^ length ys) (number_append xs ys)
    ∙ mod_low (number_of xs) (length ys) (number_of ys) (number_below ys hy)

-- the bits of one row of bytes behind another
pub bits_of_append : (xs ys : List ℕ) → bits_of (xs ++ ys) ≡ bits_of xs ++ bits_of ys
unfolding bits_of
bits_of_append [] ys = refl
bits_of_append (x ∷ xs) ys = ap (λ (l : List ℕ). bits_of_number 8 x ++ l) (bits_of_append xs ys) ∙ sym (append_assoc (bits_of_number 8 x) (bits_of xs) (bits_of ys))

-- one byte more
pub number_push : (xs : List ℕ) (b : ℕ) → b < 256 → number_of (bits_of (xs ++ (b ∷ []))) ≡ number_of (bits_of xs) * 256 + b
unfolding bits_of
number_push xs b h =
    let one : bits_of (b ∷ []) ≡ bits_of_number 8 b = append-nil (bits_of_number 8 b) in
    let small : b % 256 ≡ b = omega arith in
    ap number_of (bits_of_append xs (b ∷ []) ∙ ap (λ (l : List ℕ). bits_of xs ++ l) one)
    ∙ number_append (bits_of xs) (bits_of_number 8 b)
    ∙ ap₂ (λ (m n : ℕ). number_of (bits_of xs) * 2 ^ m + n) (length_bits_of_number 8 b) (number_of_bits 8 b ∙ small)

pub number_of_none : number_of (bits_of []) ≡ 0
unfolding bits_of number_of
number_of_none = refl

-- few bytes are a small number
pub number_small : (bs : List ℕ) → length bs ≤ 4 → number_of (bits_of bs) < 2 ^ 32
number_small bs h =
    let less : number_of (bits_of bs) < 2 ^ length (bits_of bs) = number_below (bits_of bs) (bits_of_lem bs) in
    let most : 2 ^ length (bits_of bs) ≤ 2 ^ 32 = pow_mono {i = length (bits_of bs)} {j = 32} (omega (arith, length_bits bs)) in
    omega arith

take_none : (n : ℕ) → take {A = ℕ} n [] ≡ []
take_none zero = refl
take_none (suc n) = refl

pub take_add : (m n : ℕ) (xs : List ℕ) → take (m + n) xs ≡ take m xs ++ take n (drop m xs)
take_add zero n xs = ap (λ (k : ℕ). take k xs) (zero-add n)
take_add (suc m) n [] = ap (λ (k : ℕ). take k []) (suc-add m n) ∙ sym (take_none n)
take_add (suc m) n (x ∷ xs) = ap (λ (k : ℕ). take k (x ∷ xs)) (suc-add m n) ∙ ap (λ (l : List ℕ). x ∷ l) (take_add m n xs)

drop_none : (n : ℕ) → drop {A = ℕ} n [] ≡ []
drop_none zero = refl
drop_none (suc n) = refl

-- the bits behind some bytes, and of some bytes
pub bits_of_drop : (n : ℕ) (bs : List ℕ) → bits_of (drop n bs) ≡ drop (8 * n) (bits_of bs)
unfolding bits_of
bits_of_drop zero bs = refl
bits_of_drop (suc n) [] = sym (drop_none (8 * suc n))
bits_of_drop (suc n) (b ∷ bs) =
    let e : 8 * suc n ≡ 8 + 8 * n = omega arith in
    bits_of_drop n bs
    ∙ sym (ap (drop (8 * n)) (drop_at (bits_of_number 8 b) (bits_of bs) 8 (length_bits_of_number 8 b)))
    ∙ drop-drop (8 * n) 8 (bits_of_number 8 b ++ bits_of bs)
    ∙ ap (λ (k : ℕ). drop k (bits_of_number 8 b ++ bits_of bs)) (sym e)

pub bits_of_take : (n : ℕ) (bs : List ℕ) → bits_of (take n bs) ≡ take (8 * n) (bits_of bs)
unfolding bits_of
bits_of_take zero bs = refl
bits_of_take (suc n) [] = sym (take_all (8 * suc n) [] (omega arith))
bits_of_take (suc n) (b ∷ bs) =
    let e : 8 * suc n ≡ 8 + 8 * n = omega arith in
    let B : List ℕ = bits_of_number 8 b in
    ap (λ (l : List ℕ). B ++ l) (bits_of_take n bs)
    ∙ sym (ap₂ (λ (l m : List ℕ). l ++ take (8 * n) m) (take_at B (bits_of bs) 8 (length_bits_of_number 8 b)) (drop_at B (bits_of bs) 8 (length_bits_of_number 8 b)))
    ∙ sym (take_add 8 (8 * n) (B ++ bits_of bs))
    ∙ ap (λ (k : ℕ). take k (B ++ bits_of bs)) (sym e)

-- a number out of the middle of bits: so many behind `p` are passed over, so many stand for it, and so many follow
pub number_part : (xs : List ℕ) (p r w s : ℕ) → Bits xs → p + r + w + s ≤ length xs →
    number_of (take (r + (w + s)) (drop p xs)) / 2 ^ s % 2 ^ w ≡ number_of (take w (drop (p + r) xs))
number_part xs p r w s h l =
    let E : List ℕ = drop (p + r) xs in
    let tail : List ℕ = take s (drop w E) in
    let e : drop r (drop p xs) ≡ E = drop-drop r p xs in
    let le : length E ≡ length xs - (p + r) = length-drop (p + r) xs in
    let lw : length (take w E) ≡ w = length-take-le w E (omega arith) in
    let ls : length tail ≡ s = length-take-le s (drop w E) (omega (arith, length-drop w E)) in
    let apart : take (r + (w + s)) (drop p xs) ≡ take r (drop p xs) ++ (take w E ++ tail) =
    take_add r (w + s) (drop p xs) ∙ ap (λ (m : List ℕ). take r (drop p xs) ++ take (w + s) m) e ∙ ap (λ (m : List ℕ). take r (drop p xs) ++ m) (take_add w s E) in
    ap (λ (m : List ℕ). number_of m / 2 ^ s % 2 ^ w) apart
    ∙ ap₂ (λ (i j : ℕ). number_of (take r (drop p xs) ++ (take w E ++ tail)) / 2 ^ i % 2 ^ j) (sym ls) (sym lw)
    ∙ number_between (take r (drop p xs)) (take w E) tail (bits_take w E (bits_drop (p + r) xs h)) (bits_take s (drop w E) (bits_drop w E (bits_drop (p + r) xs h)))

-- the same out of the bytes that it touches
pub number_touched : (bs : List ℕ) (p n r w s : ℕ) → 8 * n ≡ r + (w + s) → 8 * p + 8 * n ≤ 8 * length bs →
    number_of (bits_of (take n (drop p bs))) / 2 ^ s % 2 ^ w ≡ number_of (take w (drop (8 * p + r) (bits_of bs)))
number_touched bs p n r w s e l =
    ap (λ (m : List ℕ). number_of m / 2 ^ s % 2 ^ w) (bits_of_take n (drop p bs) ∙ ap₂ (λ (k : ℕ) (m : List ℕ). take k m) e (bits_of_drop p bs))
    ∙ number_part (bits_of bs) (8 * p) r w s (bits_of_lem bs) (omega (arith, length_bits bs))

-- the bits of a number, those in front and those behind
pub bits_split : (a b x : ℕ) → bits_of_number (a + b) x ≡ bits_of_number a (x / 2 ^ b) ++ bits_of_number b x
unfolding bits_of_number
bits_split zero b x = ap (λ (n : ℕ). bits_of_number n x) (zero-add b)
bits_split (suc a) b x =
    ap (λ (n : ℕ). bits_of_number n x) (suc-add a b)
    ∙ ap₂ (λ (n : ℕ) (l : List ℕ). (n % 2) ∷ l) (ap (λ (n : ℕ). x / 2 ^ n) (add_comm a b) ∙ sym (shr-shr x b a)) (bits_split a b x)

mod_even : (y d : ℕ) → y % 2 ^ (d + 1) % 2 ≡ y % 2
mod_even y d = omega (arith, mod-pow-add y d 1)

-- bits above the highest that is asked for do not matter
bit_low : (j m x : ℕ) → j < m → x % 2 ^ m / 2 ^ j % 2 ≡ x / 2 ^ j % 2
bit_low j m x h =
    let d : ℕ = m - (j + 1) in
    let e : m ≡ d + 1 + j = omega arith in
    ap (λ (n : ℕ). x % 2 ^ n / 2 ^ j % 2) e ∙ ap (λ (n : ℕ). n % 2) (field_of x (d + 1) j) ∙ mod_even (x / 2 ^ j) d

pub bits_mod : (k m x : ℕ) → k ≤ m → bits_of_number k (x % 2 ^ m) ≡ bits_of_number k x
unfolding bits_of_number
bits_mod zero m x h = refl
bits_mod (suc k) m x h = ap₂ (λ (n : ℕ) (l : List ℕ). n ∷ l) (bit_low k m x h) (bits_mod k m x (omega arith))

-- two numbers, one behind the other
pub bits_join : (a b x y : ℕ) → bits_of_number (a + b) (x * 2 ^ b + y % 2 ^ b) ≡ bits_of_number a x ++ bits_of_number b y
bits_join a b x y =
    let low : y % 2 ^ b < 2 ^ b = mod_below y (2 ^ b) (pow_pos b) in
    bits_split a b (x * 2 ^ b + y % 2 ^ b)
    ∙ ap₂ (λ (n : ℕ) (l : List ℕ). bits_of_number a n ++ l) (shr_high x b (y % 2 ^ b) low)
    (sym (bits_mod b b (x * 2 ^ b + y % 2 ^ b) (omega arith)) ∙ ap (bits_of_number b) (mod_low x b (y % 2 ^ b) low) ∙ bits_mod b b y (omega arith))

-- a zero has zeros
pub bits_zero : (k : ℕ) → bits_of_number k 0 ≡ replicate k 0
unfolding bits_of_number
bits_zero zero = refl
bits_zero (suc k) =
    let z : 0 / 2 ^ k < 1 = div_below 0 (2 ^ k) 1 (pow_pos k) (omega (arith, pow_pos k)) in
    let e : 0 / 2 ^ k % 2 ≡ 0 = omega arith in
    ap₂ (λ (n : ℕ) (l : List ℕ). n ∷ l) e (bits_zero k)

-- the bits of one byte more
pub bits_push : (xs : List ℕ) (b : ℕ) → bits_of (xs ++ (b ∷ [])) ≡ bits_of xs ++ bits_of_number 8 b
unfolding bits_of
bits_push xs b = bits_of_append xs (b ∷ []) ∙ ap (λ (l : List ℕ). bits_of xs ++ l) (append-nil (bits_of_number 8 b))

-- bytes out of their own bits, whatever follows
pub bytes_of_bits : (bs more : List ℕ) → ((i : ℕ) → get_or bs i 0 < 256) → bytes_of (length bs) (bits_of bs ++ more) ≡ bs
unfolding bytes_of bits_of
bytes_of_bits [] more h = refl
bytes_of_bits (b ∷ bs) more h =
    let B : List ℕ = bits_of_number 8 b in
    let whole : (B ++ bits_of bs) ++ more ≡ B ++ (bits_of bs ++ more) = append_assoc B (bits_of bs) more in
    let small : b % 256 ≡ b = omega (arith, h 0) in
    ap₂ (λ (n : ℕ) (l : List ℕ). n ∷ l)
    (ap (λ (l : List ℕ). number_of (take 8 l)) whole ∙ ap number_of (take_at B (bits_of bs ++ more) 8 (length_bits_of_number 8 b)) ∙ number_of_bits 8 b ∙ small)
    (ap (λ (l : List ℕ). bytes_of (length bs) (drop 8 l)) whole ∙ ap (bytes_of (length bs)) (drop_at B (bits_of bs ++ more) 8 (length_bits_of_number 8 b))
    ∙ bytes_of_bits bs more (λ i. h (suc i)))

pub length_bytes_lem : (n : ℕ) (bits : List ℕ) → length (bytes_of n bits) ≡ n
unfolding bytes_of
length_bytes_lem zero bits = refl
length_bytes_lem (suc n) bits = ap suc (length_bytes_lem n (drop 8 bits))

-- two numbers, one behind the other, have the bits of both
pub join_below : (x y a b : ℕ) → x < 2 ^ a → x * 2 ^ b + y % 2 ^ b < 2 ^ (a + b)
join_below x y a b h =
    let low : y % 2 ^ b < 2 ^ b = mod_below y (2 ^ b) (pow_pos b) in
    let less : x * 2 ^ b + y % 2 ^ b < 2 ^ b * 2 ^ a = mul-add-lt x (2 ^ b) (y % 2 ^ b) (2 ^ a) h low in
    omega (arith, pow-add 2 b a, ap (λ (n : ℕ). 2 ^ n) (add_comm a b))
