-- The steps of reading: fields of a header, choices, and headers.
use Rattle.std.proofs.Common.{◌≡◌, ℕ, zero, suc, ◌+◌, ◌-◌, ◌<◌, ◌≤◌, Bool, true, false, cond, eqb, ltb, List, [], ◌∷◌, map, length, get_or, take, drop, set, replicate, Some, None, Ok, Err, Option, Result, sym, refl, ap, ◌∙◌, ⊎_elim, suc-add, arith}
use mathlib.Core.Path.{fun_ext}
use Rattle.std.proofs.lemmas.List.{drop_more, drop_all, drop-drop, take_rest, get_or-set_same, get_or-set_other}
use Rattle.std.proofs.lemmas.Bool.{eq-eqb, ne_eqb, cases_eq, lt-ltb, le-ltb}
use Rattle.std.specs.List.{find}
use Rattle.model.specs.Packet.{Packet, put}
use Rattle.program.specs.declared.headers.Choice.{Choice}
use Rattle.program.specs.declared.headers.Header.{Header}
use Rattle.packet.specs.Bits.{bits_of, number_of}
use Rattle.packet.specs.Header as model
use Rattle.packet.specs.Header.{Widths, Next, bit_count, chosen, comes, size}
use Rattle.packet.specs.Contents.{Contents}
use Rattle.packet.specs.Parsing.{read_fields, read_header, behind, parse_from}
use Rattle.packet.specs.Stands.{choices_of, next_of, header_of}
use Rattle.packet.specs.declared.parsed.Refused.{Refused}
use Rattle.packet.specs.declared.parsed.Refused.TheVariants.{EndsWithinHeader}

-- one field more of those up to `end`, and none
pub bit_count_more : (w : Widths) (end f : ℕ) → f < end → bit_count w (end - f) f ≡ w f + bit_count w (end - (f + 1)) (f + 1)
unfolding bit_count
bit_count_more w end f h =
    let e : end - f ≡ suc (end - (f + 1)) = omega arith in
    ap (λ (n : ℕ). bit_count w n f) e

pub bit_count_end : (w : Widths) (end f : ℕ) → end ≤ f → bit_count w (end - f) f ≡ 0
unfolding bit_count
bit_count_end w end f h =
    let e : end - f ≡ 0 = omega arith in
    ap (λ (n : ℕ). bit_count w n f) e

pub fields_more : (w : Widths) (end f : ℕ) (bits : List ℕ) (p : Packet) → f < end →
    read_fields w (end - f) f bits p ≡ read_fields w (end - (f + 1)) (f + 1) (drop (w f) bits) (put f (number_of (take (w f) bits)) p)
unfolding read_fields
fields_more w end f bits p h =
    let e : end - f ≡ suc (end - (f + 1)) = omega arith in
    ap (λ (n : ℕ). read_fields w n f bits p) e

pub fields_end : (w : Widths) (end f : ℕ) (bits : List ℕ) (p : Packet) → end ≤ f → read_fields w (end - f) f bits p ≡ p
unfolding read_fields
fields_end w end f bits p h =
    let e : end - f ≡ 0 = omega arith in
    ap (λ (n : ℕ). read_fields w n f bits p) e

-- a field is written
pub put_is : (xs : List ℕ) (f x : ℕ) → f < length xs → (λ (g : ℕ). get_or (set xs f x) g 0) ≡ put f x (λ (g : ℕ). get_or xs g 0)
put_is xs f x h = fun_ext (λ g.
    ⊎_elim
    (λ (e : g ≡ f). ap (λ (k : ℕ). get_or (set xs f x) k 0) e ∙ get_or-set_same xs f x 0 h ∙ sym (ap (λ (b : Bool). cond b x (get_or xs g 0)) (eq-eqb g f e)))
    (λ (ne : g ≡ f → ⊥). get_or-set_other xs f g x 0 ne ∙ sym (ap (λ (b : Bool). cond b x (get_or xs g 0)) (ne_eqb g f ne)))
    (cases_eq g f))

-- reading what is left from a byte on
pub read_rest : (w : Widths) (k f at : ℕ) (bs : List ℕ) (p q : Packet) → q ≡ read_fields w k f (bits_of (take (length bs - at) (drop at bs))) p → q ≡ read_fields w k f (bits_of (drop at bs)) p
read_rest w k f at bs p q e = e ∙ ap (λ (l : List ℕ). read_fields w k f (bits_of l) p) (take_rest bs at)

pub left_behind : (bs : List ℕ) (at n m : ℕ) → n ≡ m → drop (at + n) bs ≡ drop m (drop at bs)
left_behind bs at n m e = sym (drop-drop n at bs) ∙ ap (λ (k : ℕ). drop k (drop at bs)) e

-- what the library's first choice says
abbrev pub says : Option Choice → Next
says (Some c) = next_of c.next
says None = model.End

pub chosen_found : (cs : List Choice) (x : ℕ) → chosen (choices_of cs) x ≡ says (find (λ (c : Choice). eqb c.value x) cs)
unfolding chosen
chosen_found [] x = refl
chosen_found (c ∷ cs) x =
    ap (λ n. cond (eqb c.value x) (next_of c.next) n) (chosen_found cs x)
    ∙ elim (eqb c.value x) as (λ b. cond b (next_of c.next) (says (find (λ (d : Choice). eqb d.value x) cs)) ≡ says (cond b (Some c) (find (λ (d : Choice). eqb d.value x) cs))) [ true ↦ refl | false ↦ refl ]

pub chosen_none : (x : ℕ) → chosen [] x ≡ model.End
unfolding chosen
chosen_none x = refl

-- an element of a list that is the same
pub is_header : {xs hs : List Header} {h : Header} (i : ℕ) → xs ≡ hs → h ≡ get_or xs i h → h ≡ get_or hs i h
is_header {xs} {hs} {h} i e is = is ∙ ap (λ (l : List Header). get_or l i h) e

-- one header more: the packet ends within it, or it is read
module _ (w : Widths) (hs : List Header) (i : ℕ) (h : Header) (next : Next) (c : Contents) (within : i < length hs) (is : h ≡ get_or hs i h) where
  abbrev rest : Next → Contents → Result Contents Refused
  rest n s = parse_from w (map header_of (drop (i + 1) hs)) (i + 1) n s

  abbrev one : Result Contents Refused
  one = cond (ltb (length c.payload) (size w (header_of h))) (Err EndsWithinHeader) (rest (behind (header_of h) (read_header w i (header_of h) c)) (read_header w i (header_of h) c))

  parse_more : parse_from w (map header_of (drop i hs)) i next c ≡ cond (comes next i) one (rest next c)
  unfolding parse_from
  parse_more = rw (drop_more hs i h within, ← is) refl

  pub parse_refuses : comes next i ≡ true → length c.payload < size w (header_of h) → parse_from w (map header_of (drop i hs)) i next c ≡ Err EndsWithinHeader
  parse_refuses e l =
      parse_more ∙ ap (λ (b : Bool). cond b one (rest next c)) e
      ∙ ap (λ (b : Bool). cond b (Err EndsWithinHeader) (rest (behind (header_of h) (read_header w i (header_of h) c)) (read_header w i (header_of h) c))) (lt-ltb (length c.payload) (size w (header_of h)) l)

  pub parse_reads : comes next i ≡ true → size w (header_of h) ≤ length c.payload →
      parse_from w (map header_of (drop i hs)) i next c
      ≡ parse_from w (map header_of (drop (i + 1) hs)) (i + 1) (behind (header_of h) (read_header w i (header_of h) c)) (read_header w i (header_of h) c)
  parse_reads e l =
      parse_more ∙ ap (λ (b : Bool). cond b one (rest next c)) e
      ∙ ap (λ (b : Bool). cond b (Err EndsWithinHeader) (rest (behind (header_of h) (read_header w i (header_of h) c)) (read_header w i (header_of h) c))) (le-ltb (length c.payload) (size w (header_of h)) l)

-- going on from what was read
pub goes_on : (rest : Next → Contents → Result Contents Refused) (h : model.Header) (next : Next) (s t : Contents) → next ≡ behind h s → s ≡ t → rest next s ≡ rest (behind h t) t
goes_on rest h next s t turns reads = ap (λ (n : Next). rest n s) turns ∙ ap (λ (x : Contents). rest (behind h x) x) reads

-- no header is left
pub parse_end : (w : Widths) (hs : List Header) (i : ℕ) (next : Next) (c : Contents) → length hs ≤ i → parse_from w (map header_of (drop i hs)) i next c ≡ Ok c
unfolding parse_from
parse_end w hs i next c h = rw (drop_all i hs h) refl

-- at first every field is 0
pub all_zero : (n f : ℕ) → ◌≡◌ {A = ℕ} (get_or (replicate n 0) f 0) 0
all_zero zero f = refl
all_zero (suc n) zero = refl
all_zero (suc n) (suc f) = all_zero n f

-- a header that does not come next is passed over
pub parse_skips : (w : Widths) (hs : List Header) (i n : ℕ) (next : Next) (c : Contents) → i < length hs → comes next n ≡ false →
    parse_from w (map header_of (drop i hs)) n next c ≡ parse_from w (map header_of (drop (i + 1) hs)) (n + 1) next c
unfolding parse_from
parse_skips w [] i n next c h e = absurd (omega arith)
parse_skips w (x ∷ hs) zero n next c h e =
    ap (λ (b : Bool). cond b (cond (ltb (length c.payload) (size w (header_of x))) (Err EndsWithinHeader) (parse_from w (map header_of hs) (n + 1) (behind (header_of x) (read_header w n (header_of x) c)) (read_header w n (header_of x) c))) (parse_from w (map header_of hs) (n + 1) next c)) e
parse_skips w (x ∷ hs) (suc i) n next c h e =
    parse_skips w hs i n next c (omega arith) e ∙ ap (λ (k : ℕ). parse_from w (map header_of (drop k (x ∷ hs))) (n + 1) next c) (sym (suc-add i 1))
