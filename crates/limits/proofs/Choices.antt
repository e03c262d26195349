-- Choosing fields and choices: one more, and what holds of them then.
use Rattle.std.proofs.Common.{◌≡◌, ℕ, zero, suc, ◌+◌, ◌<◌, ◌≤◌, true, false, cond, eqb, ◌⊎◌, List, [], ◌∷◌, ◌++◌, length, get_or, set, is_some, Some, None, Option, sym, refl, ap, ◌∙◌, subst, inl, inr, arith}
use Rattle.std.specs.List.{AllByRecursion}
use Rattle.std.proofs.lemmas.List.{length-set, get_or-set_same, get_or-set_other}
use Rattle.std.proofs.ByRecursion.{All-push, All-weaker}
use Rattle.std.proofs.lemmas.Bool.{cases_eq, eq-eqb, ne_eqb, cond-true, cond-false, both_ways}
use Rattle.source.specs.Names.{Entry, Field}
use Rattle.source.specs.State.{Next, Choice, Seen}
use Rattle.source.specs.Routing.{choice, set_by, add_choice}
use Rattle.limits.specs.Choosing.{Owns, choices_of}
use Rattle.limits.proofs.Rows.{some_same}
use Rattle.limits.proofs.Sound.{Fits, ChoiceSound, State, Awaiting, Choosing, Valued}
use Rattle.limits.proofs.Changing.{state_routes, calm_routes}

count_push : (g : ℕ) (cs : List Choice) (c : Choice) → choices_of g (cs ++ c ∷ []) ≡ choices_of g cs + cond (eqb c.header g) 1 0
unfolding choices_of
count_push g [] c = omega arith
count_push g (x ∷ xs) c = omega (arith, count_push g xs c)

count_here : (h v : ℕ) (n : Next) (cs : List Choice) → choices_of h (cs ++ choice h v n ∷ []) ≡ choices_of h cs + 1
count_here h v n cs = count_push h cs (choice h v n) ∙ ap (λ (k : ℕ). choices_of h cs + k) (cond-true (eqb h h) 1 0 (eq-eqb h h refl))

few_more : (h v : ℕ) (n : Next) (cs : List Choice) → choices_of h cs + 1 ≤ 8 → ((g : ℕ) → choices_of g cs ≤ 8) → (g : ℕ) → choices_of g (cs ++ choice h v n ∷ []) ≤ 8
few_more h v n cs l few g = go (cases_eq h g)
  where
    go : (h ≡ g) ⊎ (h ≡ g → ⊥) → choices_of g (cs ++ choice h v n ∷ []) ≤ 8
    go (inl e) = rw (← e) (omega (arith, count_here h v n cs))
    go (inr q) = let z : ◌≡◌ {A = ℕ} (cond (eqb h g) 1 0) 0 = cond-false (eqb h g) 1 0 (ne_eqb h g q) in omega (arith, few g, count_push g cs (choice h v n))

pub choice_state : (h count v : ℕ) (n : Next) (d : Seen) → State d → Valued h count v d → Fits h d.names.headers n → State (add_choice (choice h v n) d)
choice_state h count v n d s p f = state_routes _ d (record {
  first = s.routes.first;
  eight = s.routes.eight;
  own = s.routes.own;
  few = few_more h v n d.routes.choices (omega (arith, p.counted, p.few)) s.routes.few;
  choices = All-push _ d.routes.choices (choice h v n) s.routes.choices (record { small = p.small; there = p.there; chooses = p.chooses; fits = f });
}) s

pub choice_phase : (h count v : ℕ) (n : Next) (d : Seen) → Valued h count v d → Choosing h count (add_choice (choice h v n) d)
choice_phase h count v n d p = record {
  calm = calm_routes _ d p.calm;
  there = p.there;
  chooses = p.chooses;
  counted = count_here h v n d.routes.choices ∙ p.counted;
  few = p.few;
}

chooses_put : (by : List (Option ℕ)) (h f g : ℕ) → is_some (get_or by g None) ≡ true → is_some (get_or (set by h (Some f)) g None) ≡ true
chooses_put [] h f g e = e
chooses_put (o ∷ os) zero f zero e = refl
chooses_put (o ∷ os) zero f (suc g) e = e
chooses_put (o ∷ os) (suc h) f zero e = e
chooses_put (o ∷ os) (suc h) f (suc g) e = chooses_put os h f g e

own_put : (by : List (Option ℕ)) (h f : ℕ) (fs : List Field) → h < length by → Owns h f fs → ((g x : ℕ) → get_or by g None ≡ Some x → Owns g x fs) → (g x : ℕ) → get_or (set by h (Some f)) g None ≡ Some x → Owns g x fs
own_put by h f fs b o own g x e = go (cases_eq g h)
  where
    go : (g ≡ h) ⊎ (g ≡ h → ⊥) → Owns g x fs
    go (inl q) =
        let r : get_or (set by h (Some f)) h None ≡ Some x = rw q at e in
        let k : f ≡ x = some_same f x (sym (get_or-set_same by h (Some f) None b) ∙ r) in
        rw (q, ← k) o
    go (inr q) = own g x (sym (get_or-set_other by h g (Some f) None q) ∙ e)

none_yet : (h : ℕ) (hs : List Entry) (by : List (Option ℕ)) (cs : List Choice) → is_some (get_or by h None) ≡ false → AllByRecursion (ChoiceSound hs by) cs → choices_of h cs ≡ 0
unfolding choices_of
none_yet h hs by [] u a = refl
none_yet h hs by (c ∷ cs) u a =
    let z : ◌≡◌ {A = ℕ} (cond (eqb c.header h) 1 0) 0 =
    cond-false (eqb c.header h) 1 0 (ne_eqb c.header h (λ e. both_ways (is_some (get_or by h None)) u (subst (λ (k : ℕ). is_some (get_or by k None) ≡ true) e a.0.chooses))) in
    omega (arith, none_yet h hs by cs u a.1)

by_here : (by : List (Option ℕ)) (h f : ℕ) → h < length by → is_some (get_or (set by h (Some f)) h None) ≡ true
by_here by h f b = rw (get_or-set_same by h (Some f) None b) refl

pub by_state : (h f : ℕ) (d : Seen) → State d → Awaiting h d → Owns h f d.names.fields → State (set_by h f d)
by_state h f d s p o = state_routes _ d (record {
  first = s.routes.first;
  eight = length-set d.routes.by h (Some f) ∙ s.routes.eight;
  own = own_put d.routes.by h f d.names.fields (omega (arith, p.there, s.routes.eight, s.names.headers.few)) o s.routes.own;
  few = s.routes.few;
  choices = All-weaker _ _ (λ c k. record { small = k.small; there = k.there; chooses = chooses_put d.routes.by h f c.header k.chooses; fits = k.fits }) d.routes.choices s.routes.choices;
}) s

pub by_phase : (h f : ℕ) (d : Seen) → State d → Awaiting h d → Choosing h 0 (set_by h f d)
by_phase h f d s p = record {
  calm = calm_routes _ d p.calm;
  there = p.there;
  chooses = by_here d.routes.by h f (omega (arith, p.there, s.routes.eight, s.names.headers.few));
  counted = none_yet h d.names.headers d.routes.by d.routes.choices p.unset s.routes.choices;
  few = omega arith;
}
