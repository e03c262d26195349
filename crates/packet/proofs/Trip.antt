-- What was taken apart is put together again.
use Rattle.std.proofs.Common.{◌≡◌, ℕ, zero, suc, ◌+◌, ◌*◌, ◌%◌, ◌^◌, ◌<◌, ◌≤◌, Bool, true, false, cond, ltb, List, [], ◌∷◌, ◌++◌, length, get_or, take, drop, replicate, Ok, Err, Result, sym, refl, ap, ◌∙◌, ap₂, ⊎_elim, arith}
use Rattle.std.proofs.lemmas.List.{append_assoc, length-take-le, length-drop, take-append-drop}
use Rattle.std.proofs.lemmas.Nat.{shr_high, mod_low}
use Rattle.std.proofs.lemmas.Bool.{eq-eqb, ne_eqb, cases_Bool, ltb-false}
use Rattle.model.specs.Packet.{Packet, put}
use Rattle.packet.specs.Bits.{bits_of, bits_of_number, number_of, bytes_of}
use Rattle.packet.specs.Header.{Widths, Header, Next, Then, bit_count, comes, size}
use Rattle.packet.specs.Contents.{Contents, unread}
use Rattle.packet.specs.Parsing.{read_fields, read_header, behind, parse_from, parse}
use Rattle.packet.specs.Deparsing.{write_fields, write_header, write_headers}
use Rattle.packet.specs.Laws.{Bytes, Declared, RoundTrip}
use Rattle.packet.specs.declared.parsed.Refused.{Refused}
use Rattle.packet.specs.declared.parsed.Refused.TheVariants.{EndsWithinHeader, TooLong}
use Rattle.packet.proofs.Numbers.{Bits, bits_of_lem, bits_take, bits_drop, bits_mod, number_below, take_add, bits_of_take, length_bits, bytes_of_bits}

-- the number that bits stand for has these bits
pub bits_of_number_of : (xs : List ℕ) → Bits xs → bits_of_number (length xs) (number_of xs) ≡ xs
unfolding bits_of_number number_of
bits_of_number_of [] h = refl
bits_of_number_of (x ∷ xs) h =
    let n : ℕ = length xs in
    let low : number_of xs < 2 ^ n = number_below xs h.1 in
    let small : x % 2 ≡ x = omega (arith, h.0) in
    ap₂ (λ (b : ℕ) (l : List ℕ). b ∷ l)
    (ap (λ (m : ℕ). m % 2) (shr_high x n (number_of xs) low) ∙ small)
    (sym (bits_mod n n (x * 2 ^ n + number_of xs) (omega arith)) ∙ ap (bits_of_number n) (mod_low x n (number_of xs) low) ∙ bits_of_number_of xs h.1)

-- fields before the first that is read stay
pub read_keeps : (w : Widths) (k f : ℕ) (bits : List ℕ) (p : Packet) (g : ℕ) → g < f → read_fields w k f bits p g ≡ p g
unfolding read_fields
read_keeps w zero f bits p g h = refl
read_keeps w (suc k) f bits p g h =
    let x : ℕ = number_of (take (w f) bits) in
    read_keeps w k (f + 1) (drop (w f) bits) (put f x p) g (omega arith)
    ∙ ap (λ (b : Bool). cond b x (p g)) (ne_eqb g f (λ e. omega arith))

-- what is written goes by the fields that are written
pub write_same : (w : Widths) (k f : ℕ) (p q : Packet) → ((g : ℕ) → g < f + k → p g ≡ q g) → write_fields w k f p ≡ write_fields w k f q
unfolding write_fields
write_same w zero f p q h = refl
write_same w (suc k) f p q h =
    ap₂ (λ (x : ℕ) (l : List ℕ). bits_of_number (w f) x ++ l) (h f (omega arith)) (write_same w k (f + 1) p q (λ g l. h g (omega arith)))

-- fields that were read have the bits that they were read from
pub write_read : (w : Widths) (k f : ℕ) (bits : List ℕ) (p : Packet) → Bits bits → bit_count w k f ≤ length bits → write_fields w k f (read_fields w k f bits p) ≡ take (bit_count w k f) bits
unfolding write_fields read_fields bit_count
write_read w zero f bits p h l = refl
write_read w (suc k) f bits p h l =
    let x : ℕ = number_of (take (w f) bits) in
    let q : Packet = read_fields w k (f + 1) (drop (w f) bits) (put f x p) in
    let at : q f ≡ x = read_keeps w k (f + 1) (drop (w f) bits) (put f x p) f (omega arith) ∙ ap (λ (b : Bool). cond b x (p f)) (eq-eqb f f refl) in
    let long : length (take (w f) bits) ≡ w f = length-take-le (w f) bits (omega arith) in
    ap₂ (λ (a b : List ℕ). a ++ b)
    (ap (bits_of_number (w f)) at ∙ ap (λ (n : ℕ). bits_of_number n x) (sym long) ∙ bits_of_number_of (take (w f) bits) (bits_take (w f) bits h))
    (write_read w k (f + 1) (drop (w f) bits) (put f x p) (bits_drop (w f) bits h) (omega (arith, length-drop (w f) bits)))
    ∙ sym (take_add (w f) (bit_count w k (f + 1)) bits)

-- bytes below 256 at every place
pub bytes_at : (bs : List ℕ) → Bytes bs → (i : ℕ) → get_or bs i 0 < 256
bytes_at [] h i = omega arith
bytes_at (b ∷ bs) h zero = h.0
bytes_at (b ∷ bs) h (suc i) = bytes_at bs h.1 i

take_below : (n : ℕ) (bs : List ℕ) → ((i : ℕ) → get_or bs i 0 < 256) → (i : ℕ) → get_or (take n bs) i 0 < 256
take_below zero bs h i = omega arith
take_below (suc n) [] h i = omega arith
take_below (suc n) (b ∷ bs) h zero = h zero
take_below (suc n) (b ∷ bs) h (suc i) = take_below n bs (λ j. h (suc j)) i

drop_below : (n : ℕ) (bs : List ℕ) → ((i : ℕ) → get_or bs i 0 < 256) → (i : ℕ) → get_or (drop n bs) i 0 < 256
drop_below zero bs h i = h i
drop_below (suc n) [] h i = omega arith
drop_below (suc n) (b ∷ bs) h i = drop_below n bs (λ j. h (suc j)) i

-- a header that was read is written as it was
pub header_trip : (w : Widths) (h : Header) (bs : List ℕ) (p q : Packet) → bit_count w h.count h.first % 8 ≡ 0 → size w h ≤ length bs → ((i : ℕ) → get_or bs i 0 < 256) →
    ((g : ℕ) → g < h.first + h.count → q g ≡ read_fields w h.count h.first (bits_of bs) p g) → write_header w h q ≡ take (size w h) bs
header_trip w h bs p q whole l below same =
    let n : ℕ = size w h in
    let m : ℕ = bit_count w h.count h.first in
    let eight : m ≡ 8 * n = omega arith in
    let long : length (take n bs) ≡ n = length-take-le n bs l in
    ap (λ (b : List ℕ). bytes_of n (b ++ replicate 7 0))
    (write_same w h.count h.first q (read_fields w h.count h.first (bits_of bs) p) same
    ∙ write_read w h.count h.first (bits_of bs) p (bits_of_lem bs) (omega (arith, length_bits bs))
    ∙ ap (λ (k : ℕ). take k (bits_of bs)) eight ∙ sym (bits_of_take n bs))
    ∙ ap (λ (k : ℕ). bytes_of k (bits_of (take n bs) ++ replicate 7 0)) (sym long)
    ∙ bytes_of_bits (take n bs) (replicate 7 0) (take_below n bs below)

-- what the headers from a number on leave: the bytes, the headers before, and the fields below
pub record Kept (w : Widths) (hs : List Header) (i free : ℕ) (c d : Contents) : Type 0 where
  pub bytes : write_headers w hs i d.present d.fields ++ d.payload ≡ c.payload
  pub present : (n : ℕ) → n < i → d.present n ≡ c.present n
  pub fields : (g : ℕ) → g < free → d.fields g ≡ c.fields g

pub same_contents : (c d : Contents) → ◌≡◌ {A = Result Contents Refused} (Ok c) (Ok d) → c ≡ d
same_contents c d e = cc

pub never : (r : Refused) (d : Contents) → ◌≡◌ {A = Result Contents Refused} (Err r) (Ok d) → ⊥
never r d e = let z : ◌≡◌ {A = ℕ} 0 1 = cc in omega arith

pub trip : (w : Widths) (hs : List Header) (i free : ℕ) (next : Next) (c d : Contents) → Declared w hs free → ((j : ℕ) → get_or c.payload j 0 < 256) → ((n : ℕ) → i ≤ n → c.present n ≡ false) →
    parse_from w hs i next c ≡ Ok d → Kept w hs i free c d
unfolding parse_from write_headers
trip w [] i free next c d D below none e =
    let same : c ≡ d = same_contents c d e in
    record { bytes = sym (ap (λ (x : Contents). x.payload) same); present = λ n l. sym (ap (λ (x : Contents). x.present n) same); fields = λ g l. sym (ap (λ (x : Contents). x.fields g) same) }
trip w (h ∷ hs) i free next c d D below none e =
    let c' : Contents = read_header w i h c in
    let rest : Result Contents Refused = parse_from w hs (i + 1) next c in
    let read : Result Contents Refused = parse_from w hs (i + 1) (behind h c') c' in
    let one : Result Contents Refused = cond (ltb (length c.payload) (size w h)) (Err EndsWithinHeader) read in
    ⊎_elim
    (λ (there : comes next i ≡ true).
    let f : one ≡ Ok d = sym (ap (λ (b : Bool). cond b one rest) there) ∙ e in
    ⊎_elim
    (λ (cut : ltb (length c.payload) (size w h) ≡ true). absurd (never EndsWithinHeader d (sym (ap (λ (b : Bool). cond b (Err EndsWithinHeader) read) cut) ∙ f)))
    (λ (fits : ltb (length c.payload) (size w h) ≡ false).
    let long : size w h ≤ length c.payload = ltb-false (length c.payload) (size w h) fits in
    let k : Kept w hs (i + 1) (h.first + h.count) c' d =
    trip w hs (i + 1) (h.first + h.count) (behind h c') c' d D.2 (drop_below (size w h) c.payload below)
    (λ n l. ap (λ (b : Bool). cond b true (c.present n)) (ne_eqb n i (λ e. omega arith)) ∙ none n (omega arith))
    (sym (ap (λ (b : Bool). cond b (Err EndsWithinHeader) read) fits) ∙ f) in
    let here : d.present i ≡ true = k.present i (omega arith) ∙ ap (λ (b : Bool). cond b true (c.present i)) (eq-eqb i i refl) in
    let mine : write_header w h d.fields ≡ take (size w h) c.payload = header_trip w h c.payload c.fields d.fields D.1 long below k.fields in
    record {
      bytes =
          ap (λ (b : Bool). (cond b (write_header w h d.fields) [] ++ write_headers w hs (i + 1) d.present d.fields) ++ d.payload) here
          ∙ append_assoc (write_header w h d.fields) (write_headers w hs (i + 1) d.present d.fields) d.payload
          ∙ ap₂ (λ (a b : List ℕ). a ++ b) mine k.bytes ∙ take-append-drop (size w h) c.payload;
      present = λ n l. k.present n (omega arith) ∙ ap (λ (b : Bool). cond b true (c.present n)) (ne_eqb n i (λ e. omega arith));
      fields = λ g l. k.fields g (omega (arith, D.0)) ∙ read_keeps w h.count h.first (bits_of c.payload) c.fields g (omega (arith, D.0));
    })
    (cases_Bool (ltb (length c.payload) (size w h))))
    (λ (absent : comes next i ≡ false).
    let k : Kept w hs (i + 1) (h.first + h.count) c d =
    trip w hs (i + 1) (h.first + h.count) next c d D.2 below (λ n l. none n (omega arith)) (sym (ap (λ (b : Bool). cond b one rest) absent) ∙ e) in
    let here : d.present i ≡ false = k.present i (omega arith) ∙ none i (omega arith) in
    record {
      bytes = ap (λ (b : Bool). (cond b (write_header w h d.fields) [] ++ write_headers w hs (i + 1) d.present d.fields) ++ d.payload) here ∙ k.bytes;
      present = λ n l. k.present n (omega arith);
      fields = λ g l. k.fields g (omega (arith, D.0));
    })
    (cases_Bool (comes next i))

-- a packet that is not refused is not too long
pub parsed : (w : Widths) (hs : List Header) (first : ℕ) (bytes : List ℕ) (c : Contents) → parse w hs first bytes ≡ Ok c → parse_from w hs 0 (Then first) (unread bytes) ≡ Ok c
parsed w hs first bytes c e =
    let r : Result Contents Refused = parse_from w hs 0 (Then first) (unread bytes) in
    ⊎_elim
    (λ (long : ltb 2048 (length bytes) ≡ true). absurd (never TooLong c (sym (ap (λ (b : Bool). cond b (Err TooLong) r) long) ∙ e)))
    (λ (short : ltb 2048 (length bytes) ≡ false). sym (ap (λ (b : Bool). cond b (Err TooLong) r) short) ∙ e)
    (cases_Bool (ltb 2048 (length bytes)))

pub round_trip : RoundTrip
round_trip w hs first bytes c D B e =
    (trip w hs 0 0 (Then first) (unread bytes) c D (bytes_at bytes B) (λ n l. refl) (parsed w hs first bytes c e)).bytes
