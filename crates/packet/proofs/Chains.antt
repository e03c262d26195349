-- Going through the headers of the source is following their chain.
use Rattle.std.proofs.Common.{◌≡◌, ℕ, zero, suc, ◌+◌, ◌-◌, ◌<◌, ◌≤◌, Bool, true, false, cond, ltb, ◌⊎◌, ◌↔◌, List, [], ◌∷◌, length, get_or, drop, Ok, Err, Result, sym, refl, ap, ◌∙◌, subst, inl, inr, ⊎_elim, arith}
use Rattle.std.proofs.lemmas.List.{drop-drop, drop_more, length-drop}
use Rattle.std.proofs.lemmas.Bool.{eq-eqb, ne_eqb, cases_lt, cases_Bool, lt-ltb, le-ltb, ltb-true, ltb-false}
use Rattle.packet.specs.declared.parsed.Refused.{Refused}
use Rattle.packet.specs.declared.parsed.Refused.TheVariants.{EndsWithinHeader, TooLong}
use Rattle.packet.specs.Header.{Widths, Header, Next, End, Then, size}
use Rattle.packet.specs.Contents.{Contents, unread}
use Rattle.packet.specs.Parsing.{read_header, behind, parse_from, parse}
use Rattle.packet.specs.Chain.{Comes, Ends, Chain, ends, cut, reads, Refusals, Follows}

-- a header that is not among these never comes
passed : (w : Widths) (xs : List Header) (i : ℕ) (next : Next) (c : Contents) → ((n : ℕ) → next ≡ Then n → (n < i) ⊎ (i + length xs ≤ n)) → parse_from w xs i next c ≡ Ok c
unfolding parse_from
passed w [] i next c h = refl
passed w (x ∷ xs) i End c h = passed w xs (i + 1) End c (λ n e. let z : ◌≡◌ {A = ℕ} 0 1 = cc in absurd (omega arith))
passed w (x ∷ xs) i (Then n) c h =
    let c' : Contents = read_header w i x c in
    let one : Result Contents Refused = cond (ltb (length c.payload) (size w x)) (Err EndsWithinHeader) (parse_from w xs (i + 1) (behind x c') c') in
    let away : (n < i) ⊎ (i + suc (length xs) ≤ n) = h n refl in
    let other : n ≡ i → ⊥ = λ e. ⊎_elim (λ (l : n < i). omega arith) (λ (l : i + suc (length xs) ≤ n). omega arith) away in
    ap (λ (b : Bool). cond b one (parse_from w xs (i + 1) (Then n) c)) (ne_eqb n i other)
    ∙ passed w xs (i + 1) (Then n) c (λ m e.
    let same : n ≡ m = cc in
    ⊎_elim {C = (m < i + 1) ⊎ (i + 1 + length xs ≤ m)} (λ (l : n < i). inl (omega arith)) (λ (l : i + suc (length xs) ≤ n). inr (omega arith)) away)

-- headers before the one that comes are passed over
skips : (w : Widths) (xs : List Header) (d n i : ℕ) (c : Contents) → i + d ≡ n → d < length xs → parse_from w xs i (Then n) c ≡ parse_from w (drop d xs) n (Then n) c
unfolding parse_from
skips w [] d n i c e l = absurd (omega arith)
skips w (x ∷ xs) zero n i c e l = let same : i ≡ n = omega arith in ap (λ (k : ℕ). parse_from w (x ∷ xs) k (Then n) c) same
skips w (x ∷ xs) (suc d) n i c e l =
    let c' : Contents = read_header w i x c in
    let one : Result Contents Refused = cond (ltb (length c.payload) (size w x)) (Err EndsWithinHeader) (parse_from w xs (i + 1) (behind x c') c') in
    ap (λ (b : Bool). cond b one (parse_from w xs (i + 1) (Then n) c)) (ne_eqb n i (λ same. omega arith))
    ∙ skips w xs d n (i + 1) c (omega arith) (omega arith)

-- the one that comes
module _ (w : Widths) (hs : List Header) (from n : ℕ) (h : Header) (c : Contents) (k : Comes hs from n h) where
  abbrev c' : Contents
  c' = read_header w n h c

  abbrev read : Result Contents Refused
  read = parse_from w (drop (n + 1) hs) (n + 1) (behind h c') c'

  first : (xs : List Header) → parse_from w (h ∷ xs) n (Then n) c ≡ cond (ltb (length c.payload) (size w h)) (Err EndsWithinHeader) (parse_from w xs (n + 1) (behind h c') c')
  unfolding parse_from
  first xs = ap (λ (b : Bool). cond b (cond (ltb (length c.payload) (size w h)) (Err EndsWithinHeader) (parse_from w xs (n + 1) (behind h c') c')) (parse_from w xs (n + 1) (Then n) c)) (eq-eqb n n refl)

  came : parse_from w (drop from hs) from (Then n) c ≡ cond (ltb (length c.payload) (size w h)) (Err EndsWithinHeader) read
  came =
      let d : ℕ = n - from in
      let e : from + d ≡ n = omega (arith, k.later) in
      let here : drop n hs ≡ h ∷ drop (n + 1) hs = drop_more hs n h k.declared ∙ ap (λ (x : Header). x ∷ drop (n + 1) hs) (sym k.is) in
      skips w (drop from hs) d n from c e (omega (arith, length-drop from hs, k.declared))
      ∙ ap (λ (xs : List Header). parse_from w xs n (Then n) c) (drop-drop d from hs ∙ ap (λ (m : ℕ). drop m hs) e ∙ here)
      ∙ first (drop (n + 1) hs)

-- what is so along the chain is what the parser says
chain_parses : {w : Widths} {hs : List Header} {from : ℕ} {next : Next} {c : Contents} {r : Result Contents Refused} → Chain w hs from next c r → parse_from w (drop from hs) from next c ≡ r
chain_parses {w} {hs} (ends from next c e) = passed w (drop from hs) from next c (λ n is.
    let there : Ends hs from (Then n) = subst (λ (x : Next). Ends hs from x) is e in
    ⊎_elim {C = (n < from) ⊎ (from + length (drop from hs) ≤ n)} (λ (l : n < from). inl l) (λ (g : from ≤ n). inr
    (⊎_elim (λ (l : n < from). absurd (omega arith)) (λ (p : length hs ≤ n). omega (arith, length-drop from hs)) there))
    (cases_lt n from))
chain_parses {w} {hs} (cut from n h c k l) =
    came w hs from n h c k ∙ ap (λ (b : Bool). cond b (Err EndsWithinHeader) (read w hs from n h c k)) (lt-ltb (length c.payload) (size w h) l)
chain_parses {w} {hs} (reads from n h c r k l more) =
    came w hs from n h c k ∙ ap (λ (b : Bool). cond b (Err EndsWithinHeader) (read w hs from n h c k)) (le-ltb (length c.payload) (size w h) l) ∙ chain_parses more

-- the header of a number
at_number : (hs : List Header) (n : ℕ) → n < length hs → (h : Header) × (h ≡ get_or hs n h)
at_number [] n l = absurd (omega arith)
at_number (x ∷ hs) zero l = (x, refl)
at_number (x ∷ hs) (suc n) l = at_number hs n (omega arith)

-- every packet has a chain
chain_of : (w : Widths) (hs : List Header) (fuel from : ℕ) (next : Next) (c : Contents) → length hs ≤ from + fuel → (r : Result Contents Refused) × Chain w hs from next c r
chain_of w hs fuel from End c l = (Ok c, ends from End c tt)
chain_of w hs zero from (Then n) c l =
    (Ok c, ends from (Then n) c (⊎_elim {C = (n < from) ⊎ (length hs ≤ n)} (λ (a : n < from). inl a) (λ (b : from ≤ n). inr (omega arith)) (cases_lt n from)))
chain_of w hs (suc fuel) from (Then n) c l =
    ⊎_elim {C = (r : Result Contents Refused) × Chain w hs from (Then n) c r}
    (λ (a : n < from). (Ok c, ends from (Then n) c (inl a)))
    (λ (b : from ≤ n).
    ⊎_elim {C = (r : Result Contents Refused) × Chain w hs from (Then n) c r}
    (λ (there : n < length hs).
    let h : Header = (at_number hs n there).0 in
    let k : Comes hs from n h = record { later = b; declared = there; is = (at_number hs n there).1 } in
    ⊎_elim {C = (r : Result Contents Refused) × Chain w hs from (Then n) c r}
    (λ (short : length c.payload < size w h). (Err EndsWithinHeader, cut from n h c k short))
    (λ (long : size w h ≤ length c.payload).
    let more : (r : Result Contents Refused) × Chain w hs (n + 1) (behind h (read_header w n h c)) (read_header w n h c) r =
    chain_of w hs fuel (n + 1) (behind h (read_header w n h c)) (read_header w n h c) (omega arith) in
    (more.0, reads from n h c more.0 k long more.1))
    (cases_lt (length c.payload) (size w h)))
    (λ (past : length hs ≤ n). (Ok c, ends from (Then n) c (inr past)))
    (cases_lt n (length hs)))
    (cases_lt n from)

-- what the parser says is so along the chain
parse_chains : (w : Widths) (hs : List Header) (next : Next) (c : Contents) (r : Result Contents Refused) → parse_from w hs 0 next c ≡ r → Chain w hs 0 next c r
parse_chains w hs next c r e =
    let some : (r : Result Contents Refused) × Chain w hs 0 next c r = chain_of w hs (length hs) 0 next c (omega arith) in
    subst (λ (x : Result Contents Refused). Chain w hs 0 next c x) (sym (chain_parses some.1) ∙ e) some.1

-- a packet that is not too long goes by its chain
goes : (w : Widths) (hs : List Header) (first : ℕ) (bytes : List ℕ) (r : Result Contents Refused) → (r ≡ Err TooLong → ⊥) →
    (parse w hs first bytes ≡ r) ↔ ((length bytes ≤ 2048) × Chain w hs 0 (Then first) (unread bytes) r)
goes w hs first bytes r other =
    let all : Result Contents Refused = parse_from w hs 0 (Then first) (unread bytes) in (
      λ (e : parse w hs first bytes ≡ r).
          ⊎_elim {C = (length bytes ≤ 2048) × Chain w hs 0 (Then first) (unread bytes) r}
          (λ (long : ltb 2048 (length bytes) ≡ true). absurd (other (sym e ∙ ap (λ (b : Bool). cond b (Err TooLong) all) long)))
          (λ (short : ltb 2048 (length bytes) ≡ false).
          (ltb-false 2048 (length bytes) short, parse_chains w hs (Then first) (unread bytes) r (sym (ap (λ (b : Bool). cond b (Err TooLong) all) short) ∙ e)))
          (cases_Bool (ltb 2048 (length bytes))),
      λ (k : (length bytes ≤ 2048) × Chain w hs 0 (Then first) (unread bytes) r).
          ap (λ (b : Bool). cond b (Err TooLong) all) (le-ltb 2048 (length bytes) k.0) ∙ chain_parses k.1,
    )

differ : ◌≡◌ {A = Result Contents Refused} (Err EndsWithinHeader) (Err TooLong) → ⊥
differ e = let z : ◌≡◌ {A = ℕ} 0 1 = cc in omega arith

taken : (c : Contents) → ◌≡◌ {A = Result Contents Refused} (Ok c) (Err TooLong) → ⊥
taken c e = let z : ◌≡◌ {A = ℕ} 0 1 = cc in omega arith

chain_not_long : (w : Widths) (hs : List Header) {from : ℕ} {next : Next} {c : Contents} {r : Result Contents Refused} → Chain w hs from next c r → r ≡ Err TooLong → ⊥
chain_not_long w hs (ends from next c e) is = taken c is
chain_not_long w hs (cut from n h c k l) is = differ is
chain_not_long w hs (reads from n h c r k l more) is = chain_not_long w hs more is

pub refusals : Refusals
refusals w hs first bytes =
    let all : Result Contents Refused = parse_from w hs 0 (Then first) (unread bytes) in (
      (
        λ (e : parse w hs first bytes ≡ Err TooLong).
            ⊎_elim {C = 2048 < length bytes}
            (λ (long : ltb 2048 (length bytes) ≡ true). ltb-true 2048 (length bytes) long)
            (λ (short : ltb 2048 (length bytes) ≡ false).
            let is : all ≡ Err TooLong = sym (ap (λ (b : Bool). cond b (Err TooLong) all) short) ∙ e in
            absurd (chain_not_long w hs (parse_chains w hs (Then first) (unread bytes) (Err TooLong) is) refl))
            (cases_Bool (ltb 2048 (length bytes))),
        λ (long : 2048 < length bytes). ap (λ (b : Bool). cond b (Err TooLong) all) (lt-ltb 2048 (length bytes) long),
      ),
      goes w hs first bytes (Err EndsWithinHeader) differ,
    )

pub follows : Follows
follows w hs first bytes c = goes w hs first bytes (Ok c) (taken c)
