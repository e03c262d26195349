-- A packet keeps its length.
use Rattle.std.proofs.Common.{◌≡◌, ℕ, ◌+◌, ◌<◌, ◌≤◌, Bool, true, false, cond, ltb, List, [], ◌∷◌, length, Ok, Err, Result, sym, refl, ap, ◌∙◌, ⊎_elim, arith}
use Rattle.std.proofs.lemmas.List.{length-append, length-drop}
use Rattle.std.proofs.lemmas.Bool.{eq-eqb, ne_eqb, cases_Bool, ltb-false}
use Rattle.model.specs.Packet.{Packet}
use Rattle.packet.specs.Header.{Widths, Header, Next, Then, comes, size}
use Rattle.packet.specs.Contents.{Contents, unread}
use Rattle.packet.specs.Parsing.{read_header, behind, parse_from}
use Rattle.packet.specs.Deparsing.{write_header, write_headers}
use Rattle.packet.specs.Laws.{SameLength}
use Rattle.packet.specs.declared.parsed.Refused.{Refused}
use Rattle.packet.specs.declared.parsed.Refused.TheVariants.{EndsWithinHeader}
use Rattle.packet.proofs.Trip.{same_contents, never, parsed}
use Rattle.packet.proofs.Writing.{length_header}

-- what the headers from a number on leave: the count of bytes, and the headers before
record Kept (w : Widths) (hs : List Header) (i : ℕ) (c d : Contents) : Type 0 where
  count : (p : Packet) → length (write_headers w hs i d.present p) + length d.payload ≡ length c.payload
  present : (n : ℕ) → n < i → d.present n ≡ c.present n

-- one header more
length_one : (w : Widths) (h : Header) (hs : List Header) (i : ℕ) (there : ℕ → Bool) (p : Packet) →
    length (write_headers w (h ∷ hs) i there p) ≡ cond (there i) (size w h) 0 + length (write_headers w hs (i + 1) there p)
unfolding write_headers
length_one w h hs i there p =
    length-append (cond (there i) (write_header w h p) []) (write_headers w hs (i + 1) there p)
    ∙ ap (λ (n : ℕ). n + length (write_headers w hs (i + 1) there p))
    (elim (there i) as (λ b. length (cond b (write_header w h p) []) ≡ cond b (size w h) 0) [ true ↦ length_header w h p | false ↦ refl ])

keeps : (w : Widths) (hs : List Header) (i : ℕ) (next : Next) (c d : Contents) → ((n : ℕ) → i ≤ n → c.present n ≡ false) → parse_from w hs i next c ≡ Ok d → Kept w hs i c d
unfolding parse_from write_headers
keeps w [] i next c d none e =
    let same : c ≡ d = same_contents c d e in
    record { count = λ p. omega (arith, ap (λ (x : Contents). length x.payload) same); present = λ n l. sym (ap (λ (x : Contents). x.present n) same) }
keeps w (h ∷ hs) i next c d none e =
    let c' : Contents = read_header w i h c in
    let rest : Result Contents Refused = parse_from w hs (i + 1) next c in
    let read : Result Contents Refused = parse_from w hs (i + 1) (behind h c') c' in
    let one : Result Contents Refused = cond (ltb (length c.payload) (size w h)) (Err EndsWithinHeader) read in
    ⊎_elim
    (λ (there : comes next i ≡ true).
    let f : one ≡ Ok d = sym (ap (λ (b : Bool). cond b one rest) there) ∙ e in
    ⊎_elim
    (λ (cut : ltb (length c.payload) (size w h) ≡ true). absurd (never EndsWithinHeader d (sym (ap (λ (b : Bool). cond b (Err EndsWithinHeader) read) cut) ∙ f)))
    (λ (fits : ltb (length c.payload) (size w h) ≡ false).
    let long : size w h ≤ length c.payload = ltb-false (length c.payload) (size w h) fits in
    let k : Kept w hs (i + 1) c' d =
    keeps w hs (i + 1) (behind h c') c' d
    (λ n l. ap (λ (b : Bool). cond b true (c.present n)) (ne_eqb n i (λ e. omega arith)) ∙ none n (omega arith))
    (sym (ap (λ (b : Bool). cond b (Err EndsWithinHeader) read) fits) ∙ f) in
    let here : d.present i ≡ true = k.present i (omega arith) ∙ ap (λ (b : Bool). cond b true (c.present i)) (eq-eqb i i refl) in
    let mine : cond (d.present i) (size w h) 0 ≡ size w h = ap (λ (b : Bool). cond b (size w h) 0) here in
    record {
      count = λ p. omega (arith, length_one w h hs i d.present p, mine, k.count p, length-drop (size w h) c.payload);
      present = λ n l. k.present n (omega arith) ∙ ap (λ (b : Bool). cond b true (c.present n)) (ne_eqb n i (λ e. omega arith));
    })
    (cases_Bool (ltb (length c.payload) (size w h))))
    (λ (absent : comes next i ≡ false).
    let k : Kept w hs (i + 1) c d = keeps w hs (i + 1) next c d (λ n l. none n (omega arith)) (sym (ap (λ (b : Bool). cond b one rest) absent) ∙ e) in
    let here : d.present i ≡ false = k.present i (omega arith) ∙ none i (omega arith) in
    let mine : cond (d.present i) (size w h) 0 ≡ 0 = ap (λ (b : Bool). cond b (size w h) 0) here in
    record {
      count = λ p. omega (arith, length_one w h hs i d.present p, mine, k.count p);
      present = λ n l. k.present n (omega arith);
    })
    (cases_Bool (comes next i))

pub same_length : SameLength
same_length w hs first bytes c p e =
    length-append (write_headers w hs 0 c.present p) c.payload ∙ (keeps w hs 0 (Then first) (unread bytes) c (λ n l. refl) (parsed w hs first bytes c e)).count p
