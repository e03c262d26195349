-- Two different placements never print alike.
use Rattle.std.proofs.Common.{◌≡◌, ℕ, ◌+◌, ◌*◌, ◌<◌, true, List, [], ◌∷◌, ◌++◌, length, get_or, codes, decimal, sym, refl, ap, ◌∙◌, ap₂, arith}
use Rattle.std.proofs.lemmas.List.{append_assoc, append_cancel_left}
use Rattle.std.proofs.lemmas.Bool.{both_ways}
use Rattle.std.proofs.lemmas.Fmt.{decimal_injective}
use Rattle.model.specs.Action.{Operand, Field, Number, Test, Equals, Less, Set, Add}
use Rattle.model.specs.Node.{Does, Halt, Look, Ask, Do}
use Rattle.listing.specs.Listing.{Names, field_text, operand_text, test_text, does_text}
use Rattle.listing.specs.Alike.{without, digits_only, IsName, Readable, Small, OperandKnown, TestKnown, DoesKnown}
use Rattle.listing.proofs.Cuts.{cut, without_append, decimal_plain}

-- texts that differ at an index are different
pub differ : {P : Type 0} (i x y : ℕ) (xs ys : List ℕ) → xs ≡ ys → get_or xs i 0 ≡ x → get_or ys i 0 ≡ y → (x ≡ y → ⊥) → P
differ i x y xs ys e a b ne = absurd (ne (sym a ∙ ap (λ (l : List ℕ). get_or l i 0) e ∙ b))

module _ (ns : Names) (readable : Readable ns) where
  name_of : (f : ℕ) → f < length ns.fields → IsName (field_text ns f)
  name_of f h = readable.fields.each f h

  same_field : (f g : ℕ) → f < length ns.fields → g < length ns.fields → field_text ns f ≡ field_text ns g → f ≡ g
  same_field f g hf hg e = readable.fields.apart f g hf hg e

  operand_solid : (o : Operand) → OperandKnown ns o → without 32 (operand_text ns o) ≡ true
  operand_solid (Field f) h = (name_of f h).no_space
  operand_solid (Number n) h = (decimal_plain n h).no_space

  operand_line : (o : Operand) → OperandKnown ns o → without 10 (operand_text ns o) ≡ true
  operand_line (Field f) h = (name_of f h).no_line
  operand_line (Number n) h = (decimal_plain n h).no_line

  same_operand : (o p : Operand) → OperandKnown ns o → OperandKnown ns p → operand_text ns o ≡ operand_text ns p → o ≡ p
  same_operand (Field f) (Field g) ho hp e = ap Field (same_field f g ho hp e)
  same_operand (Field f) (Number n) ho hp e = absurd (both_ways (digits_only (field_text ns f)) (name_of f ho).no_number (ap digits_only e ∙ (decimal_plain n hp).digits))
  same_operand (Number m) (Field g) ho hp e = absurd (both_ways (digits_only (field_text ns g)) (name_of g hp).no_number (ap digits_only (sym e) ∙ (decimal_plain m ho).digits))
  same_operand (Number m) (Number n) ho hp e = ap Number (decimal_injective m n ho hp e)

  -- an operand, and where the packet goes on
  same_goal : (o p : Operand) (i j : ℕ) → OperandKnown ns o → OperandKnown ns p → Small i → Small j →
      operand_text ns o ++ (codes " then " ++ decimal i) ≡ operand_text ns p ++ (codes " then " ++ decimal j) → (o ≡ p) × (i ≡ j)
  same_goal o p i j ho hp hi hj e =
      let parts = cut 32 (operand_text ns o) (operand_text ns p) (codes "then " ++ decimal i) (codes "then " ++ decimal j) (operand_solid o ho) (operand_solid p hp) e in
      (same_operand o p ho hp parts.0, decimal_injective i j hi hj (append_cancel_left (codes "then ") (decimal i) (decimal j) parts.1))

  -- a change
  same_change : (f g : ℕ) (o p : Operand) (i j : ℕ) → f < length ns.fields → g < length ns.fields → OperandKnown ns o → OperandKnown ns p → Small i → Small j →
      field_text ns f ++ (codes " = " ++ (operand_text ns o ++ (codes " then " ++ decimal i))) ≡ field_text ns g ++ (codes " = " ++ (operand_text ns p ++ (codes " then " ++ decimal j))) →
      (f ≡ g) × (o ≡ p) × (i ≡ j)
  same_change f g o p i j hf hg ho hp hi hj e =
      let parts = cut 32 (field_text ns f) (field_text ns g) (codes "= " ++ (operand_text ns o ++ (codes " then " ++ decimal i))) (codes "= " ++ (operand_text ns p ++ (codes " then " ++ decimal j)))
      (name_of f hf).no_space (name_of g hg).no_space e in
      let goal = same_goal o p i j ho hp hi hj (append_cancel_left (codes "= ") (operand_text ns o ++ (codes " then " ++ decimal i)) (operand_text ns p ++ (codes " then " ++ decimal j)) parts.1) in
      (same_field f g hf hg parts.0, goal.0, goal.1)

  -- where a branch goes on
  same_ways : (i j k l : ℕ) → Small i → Small j → Small k → Small l → decimal i ++ (codes " else " ++ decimal j) ≡ decimal k ++ (codes " else " ++ decimal l) → (i ≡ k) × (j ≡ l)
  same_ways i j k l hi hj hk hl e =
      let parts = cut 32 (decimal i) (decimal k) (codes "else " ++ decimal j) (codes "else " ++ decimal l) (decimal_plain i hi).no_space (decimal_plain k hk).no_space e in
      (decimal_injective i k hi hk parts.0, decimal_injective j l hj hl (append_cancel_left (codes "else ") (decimal j) (decimal l) parts.1))

  -- a comparison, and what follows
  same_compared : (sign : List ℕ) (f g : ℕ) (o p : Operand) (r s : List ℕ) → f < length ns.fields → g < length ns.fields → OperandKnown ns o → OperandKnown ns p →
      field_text ns f ++ (32 ∷ (sign ++ (operand_text ns o ++ (32 ∷ r)))) ≡ field_text ns g ++ (32 ∷ (sign ++ (operand_text ns p ++ (32 ∷ s)))) → (f ≡ g) × (o ≡ p) × (r ≡ s)
  same_compared sign f g o p r s hf hg ho hp e =
      let parts = cut 32 (field_text ns f) (field_text ns g) (sign ++ (operand_text ns o ++ (32 ∷ r))) (sign ++ (operand_text ns p ++ (32 ∷ s))) (name_of f hf).no_space (name_of g hg).no_space e in
      let rest = cut 32 (operand_text ns o) (operand_text ns p) r s (operand_solid o ho) (operand_solid p hp)
      (append_cancel_left sign (operand_text ns o ++ (32 ∷ r)) (operand_text ns p ++ (32 ∷ s)) parts.1) in
      (same_field f g hf hg parts.0, same_operand o p ho hp rest.0, rest.1)

  -- the text of a test, and what follows, with the field in front
  opened : (f : ℕ) (sign r t : List ℕ) → (field_text ns f ++ (sign ++ r)) ++ t ≡ field_text ns f ++ (sign ++ (r ++ t))
  opened f sign r t = append_assoc (field_text ns f) (sign ++ r) t ∙ ap (λ (l : List ℕ). field_text ns f ++ l) (append_assoc sign r t)

  same_test : (c d : Test) (r s : List ℕ) → TestKnown ns c → TestKnown ns d → test_text ns c ++ (32 ∷ r) ≡ test_text ns d ++ (32 ∷ s) → (c ≡ d) × (r ≡ s)
  same_test (Equals f o) (Equals g p) r s hc hd e =
      let parts = same_compared (codes "== ") f g o p r s hc.0 hd.0 hc.1 hd.1
      (sym (opened f (codes " == ") (operand_text ns o) (32 ∷ r)) ∙ e ∙ opened g (codes " == ") (operand_text ns p) (32 ∷ s)) in
      (ap₂ Equals parts.0 parts.1, parts.2)
  same_test (Less f o) (Less g p) r s hc hd e =
      let parts = same_compared (codes "< ") f g o p r s hc.0 hd.0 hc.1 hd.1
      (sym (opened f (codes " < ") (operand_text ns o) (32 ∷ r)) ∙ e ∙ opened g (codes " < ") (operand_text ns p) (32 ∷ s)) in
      (ap₂ Less parts.0 parts.1, parts.2)
  same_test (Equals f o) (Less g p) r s hc hd e =
      let parts = cut 32 (field_text ns f) (field_text ns g) (codes "== " ++ (operand_text ns o ++ (32 ∷ r))) (codes "< " ++ (operand_text ns p ++ (32 ∷ s))) (name_of f hc.0).no_space (name_of g hd.0).no_space
      (sym (opened f (codes " == ") (operand_text ns o) (32 ∷ r)) ∙ e ∙ opened g (codes " < ") (operand_text ns p) (32 ∷ s)) in
      differ 0 61 60 (codes "== " ++ (operand_text ns o ++ (32 ∷ r))) (codes "< " ++ (operand_text ns p ++ (32 ∷ s))) parts.1 refl refl (λ (z : 61 ≡ 60). omega arith)
  same_test (Less f o) (Equals g p) r s hc hd e =
      let parts = cut 32 (field_text ns f) (field_text ns g) (codes "< " ++ (operand_text ns o ++ (32 ∷ r))) (codes "== " ++ (operand_text ns p ++ (32 ∷ s))) (name_of f hc.0).no_space (name_of g hd.0).no_space
      (sym (opened f (codes " < ") (operand_text ns o) (32 ∷ r)) ∙ e ∙ opened g (codes " == ") (operand_text ns p) (32 ∷ s)) in
      differ 0 60 61 (codes "< " ++ (operand_text ns o ++ (32 ∷ r))) (codes "== " ++ (operand_text ns p ++ (32 ∷ s))) parts.1 refl refl (λ (z : 60 ≡ 61). omega arith)

  test_line : (c : Test) → TestKnown ns c → without 10 (test_text ns c) ≡ true
  test_line (Equals f o) h = without_append 10 (field_text ns f) (codes " == " ++ operand_text ns o) (name_of f h.0).no_line (operand_line o h.1)
  test_line (Less f o) h = without_append 10 (field_text ns f) (codes " < " ++ operand_text ns o) (name_of f h.0).no_line (operand_line o h.1)

  change_line : (f : ℕ) (o : Operand) (i : ℕ) → f < length ns.fields → OperandKnown ns o → Small i → without 10 (field_text ns f ++ (codes " = " ++ (operand_text ns o ++ (codes " then " ++ decimal i)))) ≡ true
  change_line f o i hf ho hi =
      without_append 10 (field_text ns f) (codes " = " ++ (operand_text ns o ++ (codes " then " ++ decimal i))) (name_of f hf).no_line
      (without_append 10 (operand_text ns o) (codes " then " ++ decimal i) (operand_line o ho) (decimal_plain i hi).no_line)

  pub does_line : (d : Does) → DoesKnown ns d → without 10 (does_text ns d) ≡ true
  does_line Halt h = refl
  does_line (Look t i) h = without_append 10 (get_or ns.tables t []) (codes " then " ++ decimal i) (readable.tables.each t h.0).no_line (decimal_plain i h.1).no_line
  does_line (Ask c i j) h =
      without_append 10 (test_text ns c) (codes " then " ++ (decimal i ++ (codes " else " ++ decimal j))) (test_line c h.0)
      (without_append 10 (decimal i) (codes " else " ++ decimal j) (decimal_plain i h.1).no_line (decimal_plain j h.2).no_line)
  does_line (Do (Set f o) i) h = change_line f o i h.0.0 h.0.1 h.1
  does_line (Do (Add f o) i) h = change_line f o i h.0.0 h.0.1 h.1

  -- the first two bytes tell the kinds apart
  kind : Does → ℕ
  kind Halt = 0
  kind (Look t i) = 97112
  kind (Ask c i j) = 105102
  kind (Do (Set f o) i) = 115101
  kind (Do (Add f o) i) = 97100

  front : List ℕ → ℕ
  front l = get_or l 0 0 * 1000 + get_or l 1 0

  kind_front : (d : Does) → front (does_text ns d) ≡ kind d
  unfolding kind front
  kind_front Halt = refl
  kind_front (Look t i) = refl
  kind_front (Ask c i j) = refl
  kind_front (Do (Set f o) i) = refl
  kind_front (Do (Add f o) i) = refl

  same_kind : (d e : Does) → does_text ns d ≡ does_text ns e → kind d ≡ kind e
  same_kind d e h = sym (kind_front d) ∙ ap front h ∙ kind_front e

  same_look : (t u i j : ℕ) → DoesKnown ns (Look t i) → DoesKnown ns (Look u j) → does_text ns (Look t i) ≡ does_text ns (Look u j) → Look t i ≡ Look u j
  same_look t u i j hd he e =
      let parts = cut 32 (get_or ns.tables t []) (get_or ns.tables u []) (codes "then " ++ decimal i) (codes "then " ++ decimal j)
      (readable.tables.each t hd.0).no_space (readable.tables.each u he.0).no_space
      (append_cancel_left (codes "apply ") (get_or ns.tables t [] ++ (codes " then " ++ decimal i)) (get_or ns.tables u [] ++ (codes " then " ++ decimal j)) e) in
      ap₂ Look (readable.tables.apart t u hd.0 he.0 parts.0)
      (decimal_injective i j hd.1 he.1 (append_cancel_left (codes "then ") (decimal i) (decimal j) parts.1))

  same_ask : (c d : Test) (i j k l : ℕ) → DoesKnown ns (Ask c i j) → DoesKnown ns (Ask d k l) → does_text ns (Ask c i j) ≡ does_text ns (Ask d k l) → Ask c i j ≡ Ask d k l
  same_ask c d i j k l hd he e =
      let parts = same_test c d (codes "then " ++ (decimal i ++ (codes " else " ++ decimal j))) (codes "then " ++ (decimal k ++ (codes " else " ++ decimal l))) hd.0 he.0
      (append_cancel_left (codes "if ") (test_text ns c ++ (codes " then " ++ (decimal i ++ (codes " else " ++ decimal j)))) (test_text ns d ++ (codes " then " ++ (decimal k ++ (codes " else " ++ decimal l)))) e) in
      let ways = same_ways i j k l hd.1 hd.2 he.1 he.2
      (append_cancel_left (codes "then ") (decimal i ++ (codes " else " ++ decimal j)) (decimal k ++ (codes " else " ++ decimal l)) parts.1) in
      ap (λ (x : Test). Ask x i j) parts.0 ∙ ap₂ (Ask d) ways.0 ways.1

  same_set : (f g : ℕ) (o p : Operand) (i j : ℕ) → DoesKnown ns (Do (Set f o) i) → DoesKnown ns (Do (Set g p) j) → does_text ns (Do (Set f o) i) ≡ does_text ns (Do (Set g p) j) → Do (Set f o) i ≡ Do (Set g p) j
  same_set f g o p i j hd he e =
      let parts = same_change f g o p i j hd.0.0 he.0.0 hd.0.1 he.0.1 hd.1 he.1
      (append_cancel_left (codes "set ") (field_text ns f ++ (codes " = " ++ (operand_text ns o ++ (codes " then " ++ decimal i)))) (field_text ns g ++ (codes " = " ++ (operand_text ns p ++ (codes " then " ++ decimal j)))) e) in
      ap₂ Do (ap₂ Set parts.0 parts.1) parts.2

  same_add : (f g : ℕ) (o p : Operand) (i j : ℕ) → DoesKnown ns (Do (Add f o) i) → DoesKnown ns (Do (Add g p) j) → does_text ns (Do (Add f o) i) ≡ does_text ns (Do (Add g p) j) → Do (Add f o) i ≡ Do (Add g p) j
  same_add f g o p i j hd he e =
      let parts = same_change f g o p i j hd.0.0 he.0.0 hd.0.1 he.0.1 hd.1 he.1
      (append_cancel_left (codes "add ") (field_text ns f ++ (codes " = " ++ (operand_text ns o ++ (codes " then " ++ decimal i)))) (field_text ns g ++ (codes " = " ++ (operand_text ns p ++ (codes " then " ++ decimal j)))) e) in
      ap₂ Do (ap₂ Add parts.0 parts.1) parts.2

  pub same_does : (d e : Does) → DoesKnown ns d → DoesKnown ns e → does_text ns d ≡ does_text ns e → d ≡ e
  unfolding kind
  same_does Halt Halt hd he h = refl
  same_does Halt (Look t i) hd he h = absurd (omega (arith, same_kind Halt (Look t i) h))
  same_does Halt (Ask c i j) hd he h = absurd (omega (arith, same_kind Halt (Ask c i j) h))
  same_does Halt (Do (Set f o) i) hd he h = absurd (omega (arith, same_kind Halt (Do (Set f o) i) h))
  same_does Halt (Do (Add f o) i) hd he h = absurd (omega (arith, same_kind Halt (Do (Add f o) i) h))
  same_does (Look t i) Halt hd he h = absurd (omega (arith, same_kind (Look t i) Halt h))
  same_does (Look t i) (Look u j) hd he h = same_look t u i j hd he h
  same_does (Look t i) (Ask c k j) hd he h = absurd (omega (arith, same_kind (Look t i) (Ask c k j) h))
  same_does (Look t i) (Do (Set f o) j) hd he h = absurd (omega (arith, same_kind (Look t i) (Do (Set f o) j) h))
  same_does (Look t i) (Do (Add f o) j) hd he h = absurd (omega (arith, same_kind (Look t i) (Do (Add f o) j) h))
  same_does (Ask c i j) Halt hd he h = absurd (omega (arith, same_kind (Ask c i j) Halt h))
  same_does (Ask c i j) (Look u k) hd he h = absurd (omega (arith, same_kind (Ask c i j) (Look u k) h))
  same_does (Ask c i j) (Ask d k l) hd he h = same_ask c d i j k l hd he h
  same_does (Ask c i j) (Do (Set f o) k) hd he h = absurd (omega (arith, same_kind (Ask c i j) (Do (Set f o) k) h))
  same_does (Ask c i j) (Do (Add f o) k) hd he h = absurd (omega (arith, same_kind (Ask c i j) (Do (Add f o) k) h))
  same_does (Do (Set f o) i) Halt hd he h = absurd (omega (arith, same_kind (Do (Set f o) i) Halt h))
  same_does (Do (Set f o) i) (Look u j) hd he h = absurd (omega (arith, same_kind (Do (Set f o) i) (Look u j) h))
  same_does (Do (Set f o) i) (Ask c j k) hd he h = absurd (omega (arith, same_kind (Do (Set f o) i) (Ask c j k) h))
  same_does (Do (Set f o) i) (Do (Set g p) j) hd he h = same_set f g o p i j hd he h
  same_does (Do (Set f o) i) (Do (Add g p) j) hd he h = absurd (omega (arith, same_kind (Do (Set f o) i) (Do (Add g p) j) h))
  same_does (Do (Add f o) i) Halt hd he h = absurd (omega (arith, same_kind (Do (Add f o) i) Halt h))
  same_does (Do (Add f o) i) (Look u j) hd he h = absurd (omega (arith, same_kind (Do (Add f o) i) (Look u j) h))
  same_does (Do (Add f o) i) (Ask c j k) hd he h = absurd (omega (arith, same_kind (Do (Add f o) i) (Ask c j k) h))
  same_does (Do (Add f o) i) (Do (Set g p) j) hd he h = absurd (omega (arith, same_kind (Do (Add f o) i) (Do (Set g p) j) h))
  same_does (Do (Add f o) i) (Do (Add g p) j) hd he h = same_add f g o p i j hd he h
