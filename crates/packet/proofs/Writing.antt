-- The steps of writing: fields of a header, and headers.
use Rattle.std.proofs.Common.{◌≡◌, ℕ, zero, suc, ◌+◌, ◌-◌, ◌*◌, ◌/◌, ◌%◌, ◌^◌, ◌<◌, ◌≤◌, Bool, true, false, cond, List, [], ◌∷◌, ◌++◌, map, length, get_or, take, drop, set, replicate, sym, refl, ap, ◌∙◌, ap₂, suc-add, arith}
use native.Mathlib.Nat.{zero-mod}
use borrow.Rule.Slice.PartMut.{put_mid}
use Rattle.std.proofs.lemmas.List.{drop_more, drop_all, length-append, append_assoc, take_more_set, take_all, take_at, drop_at, drop-drop, length-set, replicate-append-replicate}
use Rattle.model.specs.Packet.{Packet}
use Rattle.program.specs.declared.headers.Header.{Header}
use Rattle.packet.specs.Bits.{bits_of, bits_of_number, bytes_of}
use Rattle.packet.specs.Header as model
use Rattle.packet.specs.Header.{Widths, size}
use Rattle.packet.specs.Deparsing.{write_fields, write_header, write_headers}
use Rattle.packet.specs.Stands.{header_of}
use Rattle.packet.proofs.Numbers.{length_bytes_lem, bits_split, bits_join, bits_mod, bits_push, bits_zero, bytes_of_bits}

-- one field more of those up to `end`, and none
pub write_more : (w : Widths) (end f : ℕ) (p : Packet) → f < end → write_fields w (end - f) f p ≡ bits_of_number (w f) (p f) ++ write_fields w (end - (f + 1)) (f + 1) p
unfolding write_fields
write_more w end f p h =
    let e : end - f ≡ suc (end - (f + 1)) = omega arith in
    ap (λ (n : ℕ). write_fields w n f p) e

pub write_end : (w : Widths) (end f : ℕ) (p : Packet) → end ≤ f → write_fields w (end - f) f p ≡ []
unfolding write_fields
write_end w end f p h =
    let e : end - f ≡ 0 = omega arith in
    ap (λ (n : ℕ). write_fields w n f p) e

-- a whole byte is written
pub flush : (out : List ℕ) (at k x s : ℕ) → at < length out → s ≡ 2 ^ k →
    bits_of (take (at + 1) (set out at (x / 2 ^ k))) ++ bits_of_number k (x % s) ≡ bits_of (take at out) ++ bits_of_number (8 + k) x
flush out at k x s h e =
    let b : ℕ = x / 2 ^ k in
    ap₂ (λ (l m : List ℕ). l ++ m)
    (ap bits_of (take_more_set out at b h) ∙ bits_push (take at out) b)
    (ap (λ (n : ℕ). bits_of_number k (x % n)) e ∙ bits_mod k k x (omega arith))
    ∙ append_assoc (bits_of (take at out)) (bits_of_number 8 b) (bits_of_number k x)
    ∙ ap (λ (l : List ℕ). bits_of (take at out) ++ l) (sym (bits_split 8 k x))

-- every byte of a place is below 256, also after one was written
pub set_below : (out : List ℕ) (at b : ℕ) → b < 256 → ((i : ℕ) → get_or out i 0 < 256) → (i : ℕ) → get_or (set out at b) i 0 < 256
set_below [] at b hb h i = h i
set_below (x ∷ out) zero b hb h zero = hb
set_below (x ∷ out) zero b hb h (suc i) = h (suc i)
set_below (x ∷ out) (suc at) b hb h zero = h zero
set_below (x ∷ out) (suc at) b hb h (suc i) = set_below out at b hb (λ i. h (suc i)) i

-- seven zeros, those that fill a byte up first
pads : (bits : List ℕ) (k m : ℕ) → k + m ≡ 7 → bits ++ replicate 7 0 ≡ (bits ++ replicate k 0) ++ replicate m 0
pads bits k m e =
    ap (λ (l : List ℕ). bits ++ l) (ap (λ (n : ℕ). replicate n 0) (sym e) ∙ sym (replicate-append-replicate k m 0)) ∙ sym (append_assoc bits (replicate k 0) (replicate m 0))

-- the last byte is begun: zeros fill it up
pub fills : (out bits : List ℕ) (at held x b : ℕ) → at + 1 ≡ length out → 0 < held → held < 8 → b ≡ x * 2 ^ (8 - held) → b < 256 → ((i : ℕ) → get_or out i 0 < 256) →
    bits_of (take at out) ++ bits_of_number held x ≡ bits → set out at b ≡ bytes_of (length out) (bits ++ replicate 7 0)
fills out bits at held x b end some few is small below e =
    let k : ℕ = 8 - held in
    let ys : List ℕ = set out at b in
    let inside : at < length out = omega arith in
    let eight : held + k ≡ 8 = omega arith in
    let seven : k + (held - 1) ≡ 7 = omega arith in
    let none : 0 % 2 ^ k ≡ 0 = zero-mod (2 ^ k) in
    let byte : bits_of_number 8 b ≡ bits_of_number held x ++ replicate k 0 =
    ap₂ (λ (n y : ℕ). bits_of_number n y) (sym eight) (is ∙ omega (arith, none)) ∙ bits_join held k x 0 ∙ ap (λ (l : List ℕ). bits_of_number held x ++ l) (bits_zero k) in
    let whole : bits_of ys ≡ bits ++ replicate k 0 =
    ap bits_of (sym (take_all (at + 1) ys (omega (arith, length-set out at b))) ∙ take_more_set out at b inside) ∙ bits_push (take at out) b
    ∙ ap (λ (l : List ℕ). bits_of (take at out) ++ l) byte
    ∙ sym (append_assoc (bits_of (take at out)) (bits_of_number held x) (replicate k 0))
    ∙ ap (λ (l : List ℕ). l ++ replicate k 0) e in
    sym (ap₂ (λ (n : ℕ) (l : List ℕ). bytes_of n l) (sym (length-set out at b))
    (pads bits k (held - 1) seven ∙ ap (λ (l : List ℕ). l ++ replicate (held - 1) 0) (sym whole))
    ∙ bytes_of_bits ys (replicate (held - 1) 0) (set_below out at b small below))

-- the front of a place is written, and then the payload behind it
pub pastes : (head payload before out part : List ℕ) (n k : ℕ) → n ≡ length head → k ≡ length payload → out ≡ head ++ drop (length head) before → part ≡ payload →
    put_mid n k out part ≡ (head ++ payload) ++ drop (n + length payload) before
pastes head payload before out part n k is same front back =
    ap₂ (λ (j : ℕ) (l : List ℕ). put_mid n j out l) same back
    ∙ ap (λ (l : List ℕ). put_mid n (length payload) l payload) (front ∙ ap (λ (j : ℕ). head ++ drop j before) (sym is))
    ∙ ap₂ (λ (l r : List ℕ). l ++ (payload ++ drop (length payload) r)) (take_at head (drop n before) n (sym is)) (drop_at head (drop n before) n (sym is))
    ∙ ap (λ (l : List ℕ). head ++ (payload ++ l)) (drop-drop (length payload) n before)
    ∙ sym (append_assoc head payload (drop (n + length payload) before))

-- a header that is there, one that is not, and none
pub headers_there : (w : Widths) (hs : List Header) (i n : ℕ) (h : Header) (there : ℕ → Bool) (p : Packet) → i < length hs → h ≡ get_or hs i h → there n ≡ true →
    write_headers w (map header_of (drop i hs)) n there p ≡ write_header w (header_of h) p ++ write_headers w (map header_of (drop (i + 1) hs)) (n + 1) there p
unfolding write_headers
headers_there w hs i n h there p l is e =
    let step : write_headers w (map header_of (drop i hs)) n there p ≡ cond (there n) (write_header w (header_of h) p) [] ++ write_headers w (map header_of (drop (i + 1) hs)) (n + 1) there p
    = rw (drop_more hs i h l, ← is) refl in
    step ∙ ap (λ (b : Bool). cond b (write_header w (header_of h) p) [] ++ write_headers w (map header_of (drop (i + 1) hs)) (n + 1) there p) e

pub headers_absent : (w : Widths) (hs : List Header) (i n : ℕ) (there : ℕ → Bool) (p : Packet) → i < length hs → there n ≡ false →
    write_headers w (map header_of (drop i hs)) n there p ≡ write_headers w (map header_of (drop (i + 1) hs)) (n + 1) there p
unfolding write_headers
headers_absent w [] i n there p l e = absurd (omega arith)
headers_absent w (x ∷ hs) zero n there p l e = ap (λ (b : Bool). cond b (write_header w (header_of x) p) [] ++ write_headers w (map header_of hs) (n + 1) there p) e
headers_absent w (x ∷ hs) (suc i) n there p l e =
    headers_absent w hs i n there p (omega arith) e ∙ ap (λ (k : ℕ). write_headers w (map header_of (drop k (x ∷ hs))) (n + 1) there p) (sym (suc-add i 1))

pub headers_end : (w : Widths) (hs : List Header) (i n : ℕ) (there : ℕ → Bool) (p : Packet) → length hs ≤ i → write_headers w (map header_of (drop i hs)) n there p ≡ []
unfolding write_headers
headers_end w hs i n there p l = rw (drop_all i hs l) refl

-- a header has its bytes
pub length_header : (w : Widths) (h : model.Header) (p : Packet) → length (write_header w h p) ≡ size w h
length_header w h p = length_bytes_lem (size w h) (write_fields w h.count h.first p ++ replicate 7 0)

pub length_there : (w : Widths) (hs : List Header) (i n : ℕ) (h : Header) (there : ℕ → Bool) (p : Packet) → i < length hs → h ≡ get_or hs i h → there n ≡ true →
    length (write_headers w (map header_of (drop i hs)) n there p) ≡ size w (header_of h) + length (write_headers w (map header_of (drop (i + 1) hs)) (n + 1) there p)
length_there w hs i n h there p l is e =
    ap length (headers_there w hs i n h there p l is e)
    ∙ length-append (write_header w (header_of h) p) (write_headers w (map header_of (drop (i + 1) hs)) (n + 1) there p)
    ∙ ap (λ (k : ℕ). k + length (write_headers w (map header_of (drop (i + 1) hs)) (n + 1) there p)) (length_header w (header_of h) p)
