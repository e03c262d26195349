-- A turn of the loop over the slots: one slot is worked on at its own place, and all others stay.
use Rattle.std.proofs.Common.{◌≡◌, ℕ, ◌+◌, ◌<◌, ◌≤◌, Bool, true, not, eqb, List, [], ◌∷◌, ◌++◌, length, get_or, take, drop, set, sym, refl, ap, ◌∙◌, subst, ap₂, arith}
use Rattle.std.proofs.lemmas.List.{append_assoc, map-append, take_more_set, drop_more, drop-set-lt, take_all, drop_all}
use Rattle.std.proofs.lemmas.Bool.{eqb-false, not-true, and_parts, and_from, ne_eqb, not_from_false}
use Rattle.model.specs.Version.{Version}
use Rattle.model.specs.Pipeline as model
use Rattle.pipeline.specs.Apart.{apart, distinct}
use Rattle.pipeline.specs.Slots.{place_of, places_of}
use Rattle.pipeline.specs.Stands.{View, held, slot_of, slots_of}
use Rattle.pipeline.specs.declared.slot.Slot.{Slot}

-- a number among others that are all different is apart from those before it and behind it
pub apart_before : (p : ℕ) (xs ys : List ℕ) → distinct (xs ++ (p ∷ ys)) ≡ true → apart p xs ≡ true
apart_before p [] ys h = refl
apart_before p (x ∷ xs) ys h =
    let parts = and_parts (apart x (xs ++ (p ∷ ys))) (distinct (xs ++ (p ∷ ys))) h in
    and_from (not (eqb x p)) (apart p xs) (not_from_false (eqb x p) (ne_eqb x p (λ (e : x ≡ p). met x p xs ys parts.0 (sym e)))) (apart_before p xs ys parts.1)
  where
    met : (x p : ℕ) (xs ys : List ℕ) → apart x (xs ++ (p ∷ ys)) ≡ true → p ≡ x → ⊥
    met x p [] ys h = eqb-false p x (not-true (eqb p x) (and_parts (not (eqb p x)) (apart x ys) h).0)
    met x p (y ∷ xs) ys h = met x p xs ys (and_parts (not (eqb y x)) (apart x (xs ++ (p ∷ ys))) h).1

pub apart_behind : (p : ℕ) (xs ys : List ℕ) → distinct (xs ++ (p ∷ ys)) ≡ true → apart p ys ≡ true
apart_behind p [] ys h = (and_parts (apart p ys) (distinct ys) h).0
apart_behind p (x ∷ xs) ys h = apart_behind p xs ys (and_parts (apart x (xs ++ (p ∷ ys))) (distinct (xs ++ (p ∷ ys))) h).1

apart_front : (x : ℕ) (xs ys : List ℕ) → apart x (xs ++ ys) ≡ true → apart x xs ≡ true
apart_front x [] ys h = refl
apart_front x (y ∷ xs) ys h =
    let parts = and_parts (not (eqb y x)) (apart x (xs ++ ys)) h in
    and_from (not (eqb y x)) (apart x xs) parts.0 (apart_front x xs ys parts.1)

distinct_front : (xs ys : List ℕ) → distinct (xs ++ ys) ≡ true → distinct xs ≡ true
distinct_front [] ys h = refl
distinct_front (x ∷ xs) ys h =
    let parts = and_parts (apart x (xs ++ ys)) (distinct (xs ++ ys)) h in
    and_from (apart x xs) (distinct xs) (apart_front x xs ys parts.0) (distinct_front xs ys parts.1)

-- the last may as well stand first
pub distinct_turned : (xs : List ℕ) (p : ℕ) → distinct (xs ++ (p ∷ [])) ≡ true → distinct (p ∷ xs) ≡ true
distinct_turned xs p h = and_from (apart p xs) (distinct xs) (apart_before p xs [] h) (distinct_front xs (p ∷ []) h)

-- the store stays but for one place
abbrev pub Elsewhere : ℕ → (ℕ → View) → (ℕ → View) → Type 0
Elsewhere p old new = (j : ℕ) → (j ≡ p → ⊥) → new j ≡ old j

slot_same : (p : ℕ) (old new : ℕ → View) (x : Slot) → Elsewhere p old new → (place_of x ≡ p → ⊥) → slot_of new x ≡ slot_of old x
slot_same p old new x same ne = ap (λ (w : View). held w x.node) (same (place_of x) ne)

pub slots_same : (p : ℕ) (old new : ℕ → View) (xs : List Slot) → Elsewhere p old new → apart p (places_of xs) ≡ true → slots_of new xs ≡ slots_of old xs
slots_same p old new [] same h = refl
slots_same p old new (x ∷ xs) same h =
    let parts = and_parts (not (eqb (place_of x) p)) (apart p (places_of xs)) h in
    ap₂ (λ (y : model.Slot Bool) (ys : List (model.Slot Bool)). y ∷ ys)
    (slot_same p old new x same (eqb-false (place_of x) p (not-true (eqb (place_of x) p) parts.0))) (slots_same p old new xs same parts.1)

-- front and carry have moved on, here is worked on, back is still to come
turn : (vs : Bool → Version) (i : ℕ) (old new : ℕ → View) (front back : List Slot) (carry here next : Slot) →
    Elsewhere (place_of here) old new → slot_of new next ≡ model.worked_slot vs i (slot_of old here) →
    distinct (places_of (front ++ (carry ∷ [])) ++ (place_of here ∷ places_of back)) ≡ true →
    slots_of new (front ++ (carry ∷ [])) ++ (slot_of new next ∷ model.worked vs (i + 1) (slots_of new back))
    ≡ slots_of old (front ++ (carry ∷ [])) ++ model.worked vs i (slot_of old here ∷ slots_of old back)
unfolding model.worked
turn vs i old new front back carry here next same works d =
    ap₂ (λ (xs ys : List (model.Slot Bool)). xs ++ ys)
    (slots_same (place_of here) old new (front ++ (carry ∷ [])) same (apart_before (place_of here) (places_of (front ++ (carry ∷ []))) (places_of back) d))
    (ap₂ (λ (y : model.Slot Bool) (ys : List (model.Slot Bool)). y ∷ ys) works
    (ap (model.worked vs (i + 1)) (slots_same (place_of here) old new back same (apart_behind (place_of here) (places_of (front ++ (carry ∷ []))) (places_of back) d))))

-- the places, in the order in which the slots come to stand
abbrev pub order : ℕ → List Slot → Slot → List ℕ
order i row carry = places_of (take i row) ++ (place_of carry ∷ places_of (drop i row))

-- what has moved on, and what is still to come
abbrev pub state : (Bool → Version) → ℕ → (ℕ → View) → List Slot → Slot → List (model.Slot Bool)
state vs i s row carry = slots_of s (take i row) ++ (slot_of s carry ∷ model.worked vs i (slots_of s (drop i row)))

module _ (i : ℕ) (row : List Slot) (carry here next : Slot) (within : i < length row) (is : here ≡ get_or row i here) where
  split_order : order i row carry ≡ places_of (take i row ++ (carry ∷ [])) ++ (place_of here ∷ places_of (drop (i + 1) row))
  split_order =
      ap (λ (l : List Slot). places_of (take i row) ++ (place_of carry ∷ places_of l)) (drop_more row i here within ∙ ap (λ (x : Slot). x ∷ drop (i + 1) row) (sym is))
      ∙ sym (append_assoc (places_of (take i row)) (place_of carry ∷ []) (place_of here ∷ places_of (drop (i + 1) row)))
      ∙ ap (λ (l : List ℕ). l ++ (place_of here ∷ places_of (drop (i + 1) row))) (sym (map-append place_of (take i row) (carry ∷ [])))

  back_is : drop (i + 1) (set row i carry) ≡ drop (i + 1) row
  back_is = drop-set-lt (i + 1) row i carry (omega arith)

  pub order_turn : place_of next ≡ place_of here → order (i + 1) (set row i carry) next ≡ order i row carry
  order_turn e =
      ap₂ (λ (f b : List Slot). places_of f ++ (place_of next ∷ places_of b)) (take_more_set row i carry within) back_is
      ∙ ap (λ (p : ℕ). places_of (take i row ++ (carry ∷ [])) ++ (p ∷ places_of (drop (i + 1) row))) e
      ∙ sym split_order

  pub state_turn : (vs : Bool → Version) (old new : ℕ → View) → Elsewhere (place_of here) old new → slot_of new next ≡ model.worked_slot vs i (slot_of old here) →
      distinct (order i row carry) ≡ true → state vs (i + 1) new (set row i carry) next ≡ state vs i old row carry
  state_turn vs old new same works d =
      ap₂ (λ (f b : List Slot). slots_of new f ++ (slot_of new next ∷ model.worked vs (i + 1) (slots_of new b))) (take_more_set row i carry within) back_is
      ∙ turn vs i old new (take i row) (drop (i + 1) row) carry here next same works (subst (λ (l : List ℕ). distinct l ≡ true) split_order d)
      ∙ ap (λ (l : List (model.Slot Bool)). l ++ model.worked vs i (slot_of old here ∷ slots_of old (drop (i + 1) row))) (map-append (slot_of old) (take i row) (carry ∷ []))
      ∙ append_assoc (slots_of old (take i row)) (slot_of old carry ∷ []) (model.worked vs i (slot_of old here ∷ slots_of old (drop (i + 1) row)))
      ∙ ap (λ (l : List Slot). slots_of old (take i row) ++ (slot_of old carry ∷ model.worked vs i (slots_of old l)))
      (sym (drop_more row i here within ∙ ap (λ (x : Slot). x ∷ drop (i + 1) row) (sym is)))

-- all have moved on
pub order_end : (i : ℕ) (row : List Slot) (carry : Slot) → length row ≤ i → order i row carry ≡ places_of row ++ (place_of carry ∷ [])
order_end i row carry h = ap₂ (λ (f b : List Slot). places_of f ++ (place_of carry ∷ places_of b)) (take_all i row h) (drop_all i row h)

pub state_end : (vs : Bool → Version) (i : ℕ) (s : ℕ → View) (row : List Slot) (carry : Slot) → length row ≤ i → state vs i s row carry ≡ slots_of s row ++ (slot_of s carry ∷ [])
unfolding model.worked
state_end vs i s row carry h = ap₂ (λ (f b : List Slot). slots_of s f ++ (slot_of s carry ∷ model.worked vs i (slots_of s b))) (take_all i row h) (drop_all i row h)
