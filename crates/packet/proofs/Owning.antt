-- Each bit of a packet belongs to one field or to the payload.
use Rattle.std.proofs.Common.{◌≡◌, ℕ, zero, suc, ◌+◌, ◌-◌, ◌*◌, ◌%◌, ◌≤◌, Bool, true, false, cond, List, [], ◌∷◌, ◌++◌, take, replicate, sym, refl, ap, ◌∙◌, ap₂, arith}
use Rattle.std.specs.List.{flat_map}
use Rattle.std.proofs.lemmas.List.{append_assoc, append-nil}
use Rattle.model.specs.Packet.{Packet}
use Rattle.packet.specs.Bits.{bits_of, bits_of_number}
use Rattle.packet.specs.Header.{Widths, Header, bit_count, size}
use Rattle.packet.specs.Deparsing.{write_fields, write_header, write_headers}
use Rattle.packet.specs.Laws.{Declared, numbered, fields_present, Rising, EachBitOnce}
use Rattle.packet.proofs.Numbers.{bits_of_append}
use Rattle.packet.proofs.Trip.{round_trip}
use Rattle.packet.proofs.Standing.{header_bits}

joined_append : (g : ℕ → List ℕ) (xs ys : List ℕ) → flat_map g (xs ++ ys) ≡ flat_map g xs ++ flat_map g ys
joined_append g [] ys = refl
joined_append g (x ∷ xs) ys = ap (λ (l : List ℕ). g x ++ l) (joined_append g xs ys) ∙ sym (append_assoc (g x) (flat_map g xs) (flat_map g ys))

-- a header's fields, one by one
write_joined : (w : Widths) (k f : ℕ) (p : Packet) → write_fields w k f p ≡ flat_map (λ field. bits_of_number (w field) (p field)) (numbered k f)
unfolding write_fields
write_joined w zero f p = refl
write_joined w (suc k) f p = ap (λ (l : List ℕ). bits_of_number (w f) (p f) ++ l) (write_joined w k (f + 1) p)

-- whole bytes have no other bits
whole_bits : (w : Widths) (h : Header) (p : Packet) → bit_count w h.count h.first % 8 ≡ 0 →
    bits_of (write_header w h p) ≡ flat_map (λ field. bits_of_number (w field) (p field)) (numbered h.count h.first)
whole_bits w h p e =
    let none : 8 * size w h - bit_count w h.count h.first ≡ 0 = omega arith in
    header_bits w h p
    ∙ ap (λ (k : ℕ). write_fields w h.count h.first p ++ take k (replicate 7 0)) none
    ∙ append-nil (write_fields w h.count h.first p) ∙ write_joined w h.count h.first p

headers_bits : (w : Widths) (hs : List Header) (i free : ℕ) (there : ℕ → Bool) (p : Packet) → Declared w hs free →
    bits_of (write_headers w hs i there p) ≡ flat_map (λ field. bits_of_number (w field) (p field)) (fields_present hs i there)
unfolding write_headers bits_of
headers_bits w [] i free there p D = refl
headers_bits w (h ∷ hs) i free there p D =
    let g : ℕ → List ℕ = λ field. bits_of_number (w field) (p field) in
    let own : (b : Bool) → bits_of (cond b (write_header w h p) []) ≡ flat_map g (cond b (numbered h.count h.first) []) =
    λ b. elim b as (λ z. bits_of (cond z (write_header w h p) []) ≡ flat_map g (cond z (numbered h.count h.first) [])) [ true ↦ whole_bits w h p D.1 | false ↦ refl ] in
    bits_of_append (cond (there i) (write_header w h p) []) (write_headers w hs (i + 1) there p)
    ∙ ap₂ (λ (a b : List ℕ). a ++ b) (own (there i)) (headers_bits w hs (i + 1) (h.first + h.count) there p D.2)
    ∙ sym (joined_append g (cond (there i) (numbered h.count h.first) []) (fields_present hs (i + 1) there))

rising_from : (low low' : ℕ) (xs : List ℕ) → low ≤ low' → Rising low' xs → Rising low xs
rising_from low low' [] l r = tt
rising_from low low' (x ∷ xs) l r = (omega (arith, r.0), r.1)

rising_numbered : (k f : ℕ) (ys : List ℕ) → Rising (f + k) ys → Rising f (numbered k f ++ ys)
rising_numbered zero f ys r = rising_from f (f + 0) ys (omega arith) r
rising_numbered (suc k) f ys r = (omega arith, rising_numbered k (f + 1) ys (rising_from (f + 1 + k) (f + suc k) ys (omega arith) r))

rising_fields : (w : Widths) (hs : List Header) (i free : ℕ) (there : ℕ → Bool) → Declared w hs free → Rising free (fields_present hs i there)
rising_fields w [] i free there D = tt
rising_fields w (h ∷ hs) i free there D =
    let rest : Rising (h.first + h.count) (fields_present hs (i + 1) there) = rising_fields w hs (i + 1) (h.first + h.count) there D.2 in
    elim (there i) as (λ b. Rising free (cond b (numbered h.count h.first) [] ++ fields_present hs (i + 1) there)) [
      | true ↦ rising_from free h.first (numbered h.count h.first ++ fields_present hs (i + 1) there) D.0 (rising_numbered h.count h.first (fields_present hs (i + 1) there) rest)
      | false ↦ rising_from free (h.first + h.count) (fields_present hs (i + 1) there) (omega (arith, D.0)) rest
    ]

pub each_bit_once : EachBitOnce
each_bit_once w hs first bytes c D B e = (
  ap bits_of (sym (round_trip w hs first bytes c D B e)) ∙ bits_of_append (write_headers w hs 0 c.present c.fields) c.payload
      ∙ ap (λ (l : List ℕ). l ++ bits_of c.payload) (headers_bits w hs 0 0 c.present c.fields D),
  rising_fields w hs 0 0 c.present D,
)
