-- Where fields stand in what is written.
use Rattle.std.proofs.Common.{◌≡◌, ℕ, zero, suc, ◌+◌, ◌-◌, ◌*◌, ◌<◌, ◌≤◌, Bool, true, cond, List, [], ◌∷◌, ◌++◌, length, take, drop, replicate, sym, refl, ap, ◌∙◌, ap₂, add-zero, suc-add, zero-add, arith}
use Rattle.std.proofs.lemmas.List.{append_assoc, length-append, length-take-le, length-drop, drop-drop, take_at, drop_at}
use Rattle.model.specs.Packet.{Packet}
use Rattle.packet.specs.Bits.{bits_of, bits_of_number, number_of, bytes_of}
use Rattle.packet.specs.Header.{Widths, Header, bit_count, size}
use Rattle.packet.specs.Deparsing.{write_fields, write_header, write_headers, deparse}
use Rattle.packet.specs.Laws.{StandsWritten}
use Rattle.packet.proofs.Numbers.{Bits, bits_of_number_lem, bits_append, bits_take, bits_drop, bits_of_append, take_add, length_bits, length_bits_of_number}
use Rattle.packet.proofs.Trip.{bits_of_number_of}

-- the bits of bytes that were put together from bits
pub bits_of_bytes : (n : ℕ) (xs : List ℕ) → Bits xs → 8 * n ≤ length xs → bits_of (bytes_of n xs) ≡ take (8 * n) xs
unfolding bits_of bytes_of
bits_of_bytes zero xs h l = refl
bits_of_bytes (suc n) xs h l =
    let e : 8 * suc n ≡ 8 + 8 * n = omega arith in
    let long : length (take 8 xs) ≡ 8 = length-take-le 8 xs (omega arith) in
    ap₂ (λ (a b : List ℕ). a ++ b)
    (ap (λ (k : ℕ). bits_of_number k (number_of (take 8 xs))) (sym long) ∙ bits_of_number_of (take 8 xs) (bits_take 8 xs h))
    (bits_of_bytes n (drop 8 xs) (bits_drop 8 xs h) (omega (arith, length-drop 8 xs)))
    ∙ sym (take_add 8 (8 * n) xs) ∙ ap (λ (k : ℕ). take k xs) (sym e)

bits_zeros : (n : ℕ) → Bits (replicate n 0)
bits_zeros zero = tt
bits_zeros (suc n) = (omega arith, bits_zeros n)

pub length_write : (w : Widths) (k f : ℕ) (p : Packet) → length (write_fields w k f p) ≡ bit_count w k f
unfolding write_fields bit_count
length_write w zero f p = refl
length_write w (suc k) f p =
    length-append (bits_of_number (w f) (p f)) (write_fields w k (f + 1) p) ∙ ap₂ (λ (a b : ℕ). a + b) (length_bits_of_number (w f) (p f)) (length_write w k (f + 1) p)

bits_write : (w : Widths) (k f : ℕ) (p : Packet) → Bits (write_fields w k f p)
unfolding write_fields
bits_write w zero f p = tt
bits_write w (suc k) f p = bits_append (bits_of_number (w f) (p f)) (write_fields w k (f + 1) p) (bits_of_number_lem (w f) (p f)) (bits_write w k (f + 1) p)

-- the front, and some of what is behind it
take_past : (xs ys : List ℕ) (n : ℕ) → length xs ≤ n → take n (xs ++ ys) ≡ xs ++ take (n - length xs) ys
take_past xs ys n l =
    let e : n ≡ length xs + (n - length xs) = omega arith in
    ap (λ (k : ℕ). take k (xs ++ ys)) e ∙ take_add (length xs) (n - length xs) (xs ++ ys)
    ∙ ap₂ (λ (a b : List ℕ). a ++ take (n - length xs) b) (take_at xs ys (length xs) refl) (drop_at xs ys (length xs) refl)

-- a header's bits: its fields', and zeros if a byte is begun
pub header_bits : (w : Widths) (h : Header) (p : Packet) →
    bits_of (write_header w h p) ≡ write_fields w h.count h.first p ++ take (8 * size w h - bit_count w h.count h.first) (replicate 7 0)
header_bits w h p =
    let xs : List ℕ = write_fields w h.count h.first p in
    let long : length xs ≡ bit_count w h.count h.first = length_write w h.count h.first p in
    let all : length (xs ++ replicate 7 0) ≡ length xs + 7 = length-append xs (replicate 7 0) in
    bits_of_bytes (size w h) (xs ++ replicate 7 0) (bits_append xs (replicate 7 0) (bits_write w h.count h.first p) (bits_zeros 7)) (omega arith)
    ∙ take_past xs (replicate 7 0) (8 * size w h) (omega arith)
    ∙ ap (λ (k : ℕ). xs ++ take (8 * size w h - k) (replicate 7 0)) long

-- fields in front, and those behind
write_split : (w : Widths) (k j f : ℕ) (p : Packet) → write_fields w (k + j) f p ≡ write_fields w k f p ++ write_fields w j (f + k) p
unfolding write_fields
write_split w zero j f p = ap₂ (λ (n g : ℕ). write_fields w n g p) (zero-add j) (sym (add-zero f))
write_split w (suc k) j f p =
    let e : f + 1 + k ≡ f + suc k = omega arith in
    ap (λ (n : ℕ). write_fields w n f p) (suc-add k j)
    ∙ ap (λ (l : List ℕ). bits_of_number (w f) (p f) ++ l) (write_split w k j (f + 1) p ∙ ap (λ (g : ℕ). write_fields w k (f + 1) p ++ write_fields w j g p) e)
    ∙ sym (append_assoc (bits_of_number (w f) (p f)) (write_fields w k (f + 1) p) (write_fields w j (f + suc k) p))

write_one : (w : Widths) (j f : ℕ) (p : Packet) → write_fields w (suc j) f p ≡ bits_of_number (w f) (p f) ++ write_fields w j (f + 1) p
unfolding write_fields
write_one w j f p = refl

-- a field among a header's
field_bits : (w : Widths) (n k f : ℕ) (p : Packet) (more : List ℕ) → k < n →
    take (w (f + k)) (drop (bit_count w k f) (write_fields w n f p ++ more)) ≡ bits_of_number (w (f + k)) (p (f + k))
field_bits w n k f p more h =
    let j : ℕ = n - (k + 1) in
    let e : n ≡ k + suc j = omega arith in
    let A : List ℕ = write_fields w k f p in
    let B : List ℕ = bits_of_number (w (f + k)) (p (f + k)) in
    let C : List ℕ = write_fields w j (f + k + 1) p in
    let whole : write_fields w n f p ++ more ≡ A ++ (B ++ (C ++ more)) =
    ap (λ (m : ℕ). write_fields w m f p ++ more) e
    ∙ ap (λ (l : List ℕ). l ++ more) (write_split w k (suc j) f p ∙ ap (λ (l : List ℕ). A ++ l) (write_one w j (f + k) p))
    ∙ append_assoc A (B ++ C) more ∙ ap (λ (l : List ℕ). A ++ l) (append_assoc B C more) in
    ap (λ (l : List ℕ). take (w (f + k)) (drop (bit_count w k f) l)) whole
    ∙ ap (take (w (f + k))) (drop_at A (B ++ (C ++ more)) (bit_count w k f) (length_write w k f p))
    ∙ take_at B (C ++ more) (w (f + k)) (length_bits_of_number (w (f + k)) (p (f + k)))

-- headers in front, and those behind
pub headers_append : (w : Widths) (xs ys : List Header) (i : ℕ) (there : ℕ → Bool) (p : Packet) →
    write_headers w (xs ++ ys) i there p ≡ write_headers w xs i there p ++ write_headers w ys (i + length xs) there p
unfolding write_headers
headers_append w [] ys i there p = ap (λ (n : ℕ). write_headers w ys n there p) (sym (add-zero i))
headers_append w (x ∷ xs) ys i there p =
    let e : i + 1 + length xs ≡ i + suc (length xs) = omega arith in
    let one : List ℕ = cond (there i) (write_header w x p) [] in
    ap (λ (l : List ℕ). one ++ l) (headers_append w xs ys (i + 1) there p ∙ ap (λ (n : ℕ). write_headers w xs (i + 1) there p ++ write_headers w ys n there p) e)
    ∙ sym (append_assoc one (write_headers w xs (i + 1) there p) (write_headers w ys (i + suc (length xs)) there p))

header_there : (w : Widths) (h : Header) (hs : List Header) (i : ℕ) (there : ℕ → Bool) (p : Packet) → there i ≡ true →
    write_headers w (h ∷ hs) i there p ≡ write_header w h p ++ write_headers w hs (i + 1) there p
unfolding write_headers
header_there w h hs i there p e = ap (λ (b : Bool). cond b (write_header w h p) [] ++ write_headers w hs (i + 1) there p) e

pub stands_written : StandsWritten
stands_written w before h after c k there l =
    let P : ℕ → Bool = c.present in
    let F : Packet = c.fields in
    let n : ℕ = length before in
    let m : ℕ = bit_count w k h.first in
    let A : List ℕ = write_headers w before 0 P F in
    let B : List ℕ = write_header w h F in
    let R : List ℕ = write_headers w after (n + 1) P F ++ c.payload in
    let FB : List ℕ = write_fields w h.count h.first F in
    let Z : List ℕ = take (8 * size w h - bit_count w h.count h.first) (replicate 7 0) in
    let whole : deparse w (before ++ (h ∷ after)) c ≡ A ++ (B ++ R) =
    ap (λ (x : List ℕ). x ++ c.payload) (headers_append w before (h ∷ after) 0 P F ∙ ap (λ (j : ℕ). A ++ write_headers w (h ∷ after) j P F) (zero-add n) ∙ ap (λ (x : List ℕ). A ++ x) (header_there w h after n P F there))
    ∙ append_assoc A (B ++ write_headers w after (n + 1) P F) c.payload
    ∙ ap (λ (x : List ℕ). A ++ x) (append_assoc B (write_headers w after (n + 1) P F) c.payload) in
    let bits : bits_of (deparse w (before ++ (h ∷ after)) c) ≡ bits_of A ++ (FB ++ (Z ++ bits_of R)) =
    ap bits_of whole ∙ bits_of_append A (B ++ R)
    ∙ ap (λ (x : List ℕ). bits_of A ++ x) (bits_of_append B R ∙ ap (λ (x : List ℕ). x ++ bits_of R) (header_bits w h F) ∙ append_assoc FB Z (bits_of R)) in
    ap (λ (x : List ℕ). take (w (h.first + k)) (drop (8 * length A + m) x)) bits
    ∙ ap (take (w (h.first + k))) (sym (drop-drop m (8 * length A) (bits_of A ++ (FB ++ (Z ++ bits_of R)))) ∙ ap (drop m) (drop_at (bits_of A) (FB ++ (Z ++ bits_of R)) (8 * length A) (length_bits A)))
    ∙ field_bits w h.count k h.first F (Z ++ bits_of R) l
