-- The first header and the choices that are spelt are read.
use Rattle.std.proofs.Common.{◌≡◌, ℕ, ◌+◌, ◌^◌, ◌<◌, ◌≤◌, ltb, List, [], ◌∷◌, ◌++◌, length, is_some, Some, None, codes, Option, sym, refl, ap, ◌∙◌, arith}
use Rattle.std.proofs.lemmas.List.{append-nil, append_assoc}
use Rattle.std.proofs.lemmas.Bool.{cond-true, cond-false, lt-ltb}
use Rattle.token.specs.declared.token.Sign.TheVariants.{Open, Close, Semicolon, Colon}
use Rattle.token.specs.Tokens.{Word, Number, Mark}
use Rattle.source.specs.Names.{find}
use Rattle.source.specs.State.{Names, Choice, Tables, Body, Seen, Item, InRoute, InField, By, Named, ChoiceValue, ChoiceNext, ChoiceEnd}
use Rattle.source.specs.Steps.{says, go}
use Rattle.source.specs.Routing.{has_by, add_choice, choice, chosen}
use Rattle.grammar.specs.Syntax.{Reference, Onward, Finish, Towards, Case, FirstItem, AfterItem}
use Rattle.grammar.specs.Spelling as spelling
use Rattle.grammar.specs.Spelling.{Piece, onward, cases, item}
use Rattle.grammar.specs.Lookup.{the, field_of}
use Rattle.grammar.specs.Program.{Program, seen}
use Rattle.grammar.specs.Routes.{GoodFirst, set_first, next_by, next_of, choice_of, choices_of, GoodOnward, GoodCase, GoodCases, GoodAfterAt, GoodAfter, add_choices_at, add_choices}
use Rattle.grammar.proofs.Going.{Goes, next, by, by_at, to_state, known_is, known_goes, room_goes, refers}
use Rattle.grammar.proofs.GoingHeaders.{other_word}

pub first_goes : (p : Program) (w : List ℕ) (ks : List Piece) → GoodFirst p w → Goes Item (seen p) (item (FirstItem w) ks) Item (seen (set_first w p)) ks
first_goes p w ks g =
    next (by (Word (codes "first")) refl (λ i. cond-false (is_some p.routes.first) _ _ (ap is_some g.once)))
    (next (by (Word w) refl (λ i. known_goes i _ (find p.names.headers w) _ (known_is _ g.known))) (by (Mark Semicolon) refl (λ i. refl)))

chosen_goes : (h n v : ℕ) (w : List ℕ) (at : ℕ) (o : Option ℕ) (d : Seen) → ((k : ℕ) → o ≡ Some k → h < k) →
    chosen h n v w at o d ≡ go (InRoute (ChoiceEnd h n)) (add_choice (choice h v (next_by o w at)) d)
chosen_goes h n v w at (Some k) d b = cond-true (ltb h k) _ _ (lt-ltb h k (b k refl))
chosen_goes h n v w at None d b = refl

module _ (n : Names) (first : Option ℕ) (b : List (Option ℕ)) (T : Tables) (body : Body) (h : ℕ) where
  abbrev pub at : List Choice → Seen
  at cs = record { names = n; routes = record { first = first; by = b; choices = cs }; tables = T; body = body }

  onward_goes : (k v : ℕ) (o : Onward) (C : List Choice) (ks : List Piece) → GoodOnward n.headers h o →
      Goes (InRoute (ChoiceNext h k v)) (at C) (onward o ks) (InRoute (ChoiceEnd h k)) (at (C ++ choice h v (next_of n.headers o) ∷ [])) ks
  onward_goes k v Finish C ks g = by (Word (codes "end")) refl (λ i. refl)
  onward_goes k v (Towards w o) C ks g =
      by_at o (Word w) refl (cond-false (says (codes "end") (Word w)) _ _ (other_word _ _ g.name) ∙ chosen_goes h k v w o (find n.headers w) (at C) g.behind)

  case_goes : (k : ℕ) (c : Case) (C : List Choice) (ks : List Piece) → k < 8 → GoodCase n.headers h c →
      Goes (InRoute (ChoiceValue h k)) (at C) (cases (c ∷ []) ks) (InRoute (ChoiceValue h (k + 1))) (at (C ++ choice_of n.headers h c ∷ [])) ks
  case_goes k c C ks l g =
      next (by (Number c.value) refl (λ i. cond-true (ltb c.value (2 ^ 32)) _ _ (lt-ltb _ _ g.small) ∙ room_goes i k 8 _ l))
      (next (by (Mark Colon) refl (λ i. refl))
      (next (onward_goes (k + 1) c.value c.next C (spelling.sign Semicolon ∷ ks) g.next) (by (Mark Semicolon) refl (λ i. refl))))

  cases_go : (cs : List Case) (k : ℕ) (C : List Choice) (ks : List Piece) → k + length cs ≤ 8 → GoodCases n.headers h cs →
      Goes (InRoute (ChoiceValue h k)) (at C) (cases cs (spelling.sign Close ∷ ks)) Item (at (C ++ choices_of n.headers h cs)) ks
  cases_go [] k C ks l g = to_state (ap at (sym (append-nil C))) (by (Mark Close) refl (λ i. refl))
  cases_go (c ∷ cs) k C ks l g =
      next (case_goes k c C (cases cs (spelling.sign Close ∷ ks)) (omega arith) g.0)
      (to_state (ap at (append_assoc C (choice_of n.headers h c ∷ []) (choices_of n.headers h cs)))
      (cases_go cs (k + 1) (C ++ choice_of n.headers h c ∷ []) ks (omega arith) g.1))

after_at : (p : Program) (h : ℕ) (r : Reference) (cs : List Case) (ks : List Piece) → GoodAfterAt p h r cs →
    Goes (InField (By h) Named) (seen p) (spelling.reference r (spelling.sign Open ∷ cases cs (spelling.sign Close ∷ ks))) Item (seen (add_choices_at h r cs p)) ks
after_at p h r cs ks g =
    next (refers (By h) (InField (By h) Named) (seen p) (λ w i. refl) (the (field_of p.names h r)) Open refl refl r (known_is _ g.by) (λ j. refl))
    (cases_go p.names _ _ _ _ h cs 0 p.routes.choices ks (omega (arith, g.few)) g.cases)

pub after_goes : (p : Program) (w : List ℕ) (r : Reference) (cs : List Case) (ks : List Piece) → GoodAfter p w r cs →
    Goes Item (seen p) (item (AfterItem w r cs) ks) Item (seen (add_choices w r cs p)) ks
after_goes p w r cs ks g =
    next (by (Word (codes "after")) refl (λ i. refl))
    (next (by (Word w) refl (λ i. known_goes i _ (find p.names.headers w) _ (known_is _ g.known)
    ∙ cond-false (has_by (the (find p.names.headers w)) (seen p)) _ _ (ap is_some g.good.once)))
    (next (by (Word (codes "by")) refl (λ i. refl)) (after_at p _ r cs ks g.good)))
