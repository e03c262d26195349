-- The first header and the choices that are read are spelt.
use Rattle.std.proofs.Common.{◌≡◌, ℕ, ◌+◌, ◌^◌, ◌<◌, ◌≤◌, ltb, List, [], ◌∷◌, ◌++◌, length, get_or, Some, None, codes, Option, sym, refl, ap, ◌∙◌, subst, arith}
use Rattle.std.proofs.lemmas.List.{append-nil, append_assoc}
use Rattle.std.proofs.lemmas.Bool.{ltb-true}
use Rattle.token.specs.declared.token.Sign.TheVariants.{Open, Close, Semicolon, Colon}
use Rattle.token.specs.Tokens.{Word, Mark, Token}
use Rattle.source.specs.Names.{find}
use Rattle.source.specs.State.{Names, Choice, Tables, Body, Seen, Item, InRoute, InField, By, Named, FirstName, AfterName, ChoiceValue, ChoiceNext, ChoiceEnd}
use Rattle.source.specs.Steps.{go, is_sign, says}
use Rattle.source.specs.Routing as routing
use Rattle.source.specs.Routing.{has_by, set_by, choice, chosen}
use Rattle.grammar.specs.Syntax.{Reference, Onward, Finish, Towards, Case, FirstItem, AfterItem}
use Rattle.grammar.specs.Spelling as spelling
use Rattle.grammar.specs.Spelling.{Piece, Fits}
use Rattle.grammar.specs.Lookup.{Known, the, field_of}
use Rattle.grammar.specs.Program.{Program, seen}
use Rattle.grammar.specs.Routes.{next_by, next_of, choice_of, choices_of, GoodOnward, GoodCase, GoodCases, GoodAfterAt, add_choices_at}
use Rattle.grammar.proofs.GoingRoutes.{at}
use Rattle.grammar.proofs.Taking.{After, refuses, next, is_sign_lem, is_word, took_if, took_sign, took_word, took_number, took_known, took_room, next_sign, next_keyword, next_word, put, put_at, less, by_length}
use Rattle.grammar.proofs.TakingItem.{ItemRead, is_none, is_known, is_the, another, fewer}
use Rattle.grammar.proofs.TakingFields.{ReferenceRead, reference_read}

first_of : (p : Program) (g : Seen) (ts us : List Token) (w : List ℕ) (h : ℕ) → p.routes.first ≡ None → find p.names.headers w ≡ Some h →
    ((js : List Piece) → Fits js us → Fits (spelling.item (FirstItem w) js) ts) → length us < length ts → After (go Item (routing.set_first h (seen p))) us g → ItemRead p ts g
first_of p g ts us w h o i spelt l a =
    record {
      item = FirstItem w;
      rest = us;
      good = record { once = o; known = is_known _ _ i };
      spelt = spelt;
      less = l;
      takes = subst (λ (k : ℕ). After (go Item (routing.set_first k (seen p))) us g) (sym (is_the _ _ i)) a;
    }

pub first_read : (p : Program) (g : Seen) (ts : List Token) (x : Token) (xs : List Token) → ts ≡ x ∷ xs → x.kind ≡ Word (codes "first") → p.routes.first ≡ None →
    After (go (InRoute FirstName) (seen p)) xs g → ItemRead p ts g
first_read p g ts x xs e c o a =
    next_word refl (λ y. refl) a (λ y ys w f k s. took_known y.at (find p.names.headers w) _ s (λ h i s.
    next_sign Semicolon refl (λ z. refl) s (λ z zs j l s.
    first_of p g ts zs w h o i (λ js q. put e c (put f k (put j l q))) (fewer _ _ _ (less j) (fewer _ _ _ (less f) (less e))) s)))

module _ (n : Names) (first : Option ℕ) (b : List (Option ℕ)) (T : Tables) (body : Body) (h : ℕ) (g : Seen) where
  abbrev with_choices : List Choice → Seen
  with_choices C = at n first b T body h C

  record OnwardRead (k v : ℕ) (C : List Choice) (ts : List Token) : Type 0 where
    onward : Onward
    rest : List Token
    good : GoodOnward n.headers h onward
    spelt : (js : List Piece) → Fits js rest → Fits (spelling.onward onward js) ts
    less : length rest < length ts
    takes : After (go (InRoute (ChoiceEnd h k)) (with_choices (C ++ choice h v (next_of n.headers onward) ∷ []))) rest g

  chosen_read : {R : Type 0} (k v : ℕ) (w : List ℕ) (i : ℕ) (o : Option ℕ) (C : List Choice) (xs : List Token) → After (chosen h k v w i o (with_choices C)) xs g →
      (((m : ℕ) → o ≡ Some m → h < m) → After (go (InRoute (ChoiceEnd h k)) (with_choices (C ++ choice h v (next_by o w i) ∷ []))) xs g → R) → R
  chosen_read k v w i (Some m) C xs a r =
      took_if (ltb h m) a (λ e s. r (λ l q. subst (λ (z : ℕ). h < z) (ap the q) (ltb-true h m e)) s) (λ e s. refuses s)
  chosen_read k v w i None C xs a r = r (λ l q. let z : ◌≡◌ {A = ℕ} 0 1 = cc in absurd (omega arith)) a

  onward_read : (k v : ℕ) (C : List Choice) (ts : List Token) → After (go (InRoute (ChoiceNext h k v)) (with_choices C)) ts g → OnwardRead k v C ts
  onward_read k v C ts a =
      next refl a (λ x xs e s. took_if (says (codes "end") x.kind) s
      (λ c s. record { onward = Finish; rest = xs; good = tt; spelt = λ js q. put e (is_word _ _ c) q; less = less e; takes = s })
      (λ c s. took_word x _ s (λ w q s. chosen_read k v w x.at (find n.headers w) C xs s (λ z s.
      record {
        onward = Towards w x.at;
        rest = xs;
        good = record { name = another _ _ (sym (ap (says (codes "end")) q) ∙ c); behind = z };
        spelt = λ js f. put_at e q f;
        less = less e;
        takes = s;
      }))))

  record CasesRead (k : ℕ) (C : List Choice) (ts : List Token) : Type 0 where
    cases : List Case
    rest : List Token
    good : GoodCases n.headers h cases
    few : k + length cases ≤ 8
    spelt : (js : List Piece) → Fits js rest → Fits (spelling.cases cases (spelling.sign Close ∷ js)) ts
    less : length rest < length ts
    takes : After (go Item (with_choices (C ++ choices_of n.headers h cases))) rest g

  no_case : (k : ℕ) (C : List Choice) (ts : List Token) (x : Token) (xs : List Token) → ts ≡ x ∷ xs → x.kind ≡ Mark Close → k ≤ 8 →
      After (go Item (with_choices C)) xs g → CasesRead k C ts
  no_case k C ts x xs e c l a =
      record {
        cases = [];
        rest = xs;
        good = tt;
        few = omega arith;
        spelt = λ js f. put e c f;
        less = less e;
        takes = subst (λ (D : List Choice). After (go Item (with_choices D)) xs g) (sym (append-nil C)) a;
      }

  one_case : (k : ℕ) (C : List Choice) (c : Case) (ts us : List Token) → GoodCase n.headers h c →
      ((js : List Piece) → Fits js us → Fits (spelling.cases (c ∷ []) js) ts) → length us < length ts → CasesRead (k + 1) (C ++ choice_of n.headers h c ∷ []) us → CasesRead k C ts
  one_case k C c ts us good spelt l m =
      record {
        cases = c ∷ m.cases;
        rest = m.rest;
        good = (good, m.good);
        few = omega (arith, m.few);
        spelt = λ js f. spelt _ (m.spelt js f);
        less = fewer _ _ _ m.less l;
        takes = subst (λ (D : List Choice). After (go Item (with_choices D)) m.rest g) (append_assoc C (choice_of n.headers h c ∷ []) (choices_of n.headers h m.cases)) m.takes;
      }

  from_onward : (k v : ℕ) (C : List Choice) (ts us : List Token) → v < 2 ^ 32 → ((js : List Piece) → Fits js us → Fits (spelling.number v ∷ spelling.sign Colon ∷ js) ts) → length us < length ts →
      OnwardRead (k + 1) v C us → ((D : List Choice) (vs : List Token) → length vs < length ts → After (go (InRoute (ChoiceValue h (k + 1))) (with_choices D)) vs g → CasesRead (k + 1) D vs) → CasesRead k C ts
  from_onward k v C ts us small spelt l o more =
      next_sign Semicolon refl (λ z. refl) o.takes (λ z zs j q s.
      one_case k C (record { value = v; next = o.onward }) ts zs (record { small = small; next = o.good })
      (λ js f. spelt _ (o.spelt _ (put j q f)))
      (fewer _ _ _ (less j) (fewer _ _ _ o.less l))
      (more _ zs (fewer _ _ _ (less j) (fewer _ _ _ o.less l)) s))

  cases_read : (ts : List Token) (k : ℕ) (C : List Choice) → k ≤ 8 → After (go (InRoute (ChoiceValue h k)) (with_choices C)) ts g → CasesRead k C ts
  cases_read =
      by_length (λ ts. (k : ℕ) (C : List Choice) → k ≤ 8 → After (go (InRoute (ChoiceValue h k)) (with_choices C)) ts g → CasesRead k C ts) (λ ts rec k C l a.
      next refl a (λ x xs e s. took_if (is_sign Close x.kind) s
      (λ c s. no_case k C ts x xs e (is_sign_lem Close x.kind c) l s)
      (λ c s. took_number x _ s (λ v q m s. took_room x.at k 8 _ s (λ u s. next_sign Colon refl (λ y. refl) s (λ y ys f i s.
      from_onward k v C ts ys m (λ js z. put e q (put f i z)) (fewer _ _ _ (less f) (less e)) (onward_read (k + 1) v C ys s)
      (λ D vs z. rec vs z (k + 1) D (omega arith))))))))

record AfterRead (p : Program) (h : ℕ) (ts : List Token) (g : Seen) : Type 0 where
  by : Reference
  cases : List Case
  rest : List Token
  good : GoodAfterAt p h by cases
  spelt : (js : List Piece) → Fits js rest → Fits (spelling.reference by (spelling.sign Open ∷ spelling.cases cases (spelling.sign Close ∷ js))) ts
  less : length rest < length ts
  takes : After (go Item (seen (add_choices_at h by cases p))) rest g

after_from : (p : Program) (h : ℕ) (g : Seen) (ts us : List Token) (r : Reference) → get_or p.routes.by h None ≡ None → Known (field_of p.names h r) →
    ((js : List Piece) → Fits js us → Fits (spelling.reference r (spelling.sign Open ∷ js)) ts) → length us < length ts →
    After (go (InRoute (ChoiceValue h 0)) (set_by h (the (field_of p.names h r)) (seen p))) us g → AfterRead p h ts g
after_from p h g ts us r o i spelt l a =
    let c = cases_read p.names p.routes.first _ (seen p).tables (seen p).body h g us 0 p.routes.choices (omega arith) a in
    record {
      by = r;
      cases = c.cases;
      rest = c.rest;
      good = record { once = o; by = i; cases = c.good; few = omega (arith, c.few) };
      spelt = λ js q. spelt _ (c.spelt js q);
      less = fewer _ _ _ c.less l;
      takes = c.takes;
    }

after_at : (p : Program) (h : ℕ) (g : Seen) (ts : List Token) → get_or p.routes.by h None ≡ None → After (go (InField (By h) Named) (seen p)) ts g → AfterRead p h ts g
after_at p h g ts o a =
    next refl a (λ x xs e s.
    let r : ReferenceRead (By h) (seen p) ts g = reference_read (By h) (seen p) g ts x xs e s in
    took_sign Open r.token _ r.takes (λ c s.
    after_from p h g ts r.rest r.reference o r.known (λ js q. r.spelt _ (put refl c q)) r.less s))

after_of_lem : (p : Program) (g : Seen) (ts us : List Token) (w : List ℕ) (h : ℕ) → find p.names.headers w ≡ Some h →
    ((js : List Piece) → Fits js us → Fits (spelling.word (codes "after") ∷ spelling.word w ∷ spelling.word (codes "by") ∷ js) ts) → length us < length ts →
    AfterRead p (the (find p.names.headers w)) us g → ItemRead p ts g
after_of_lem p g ts us w h i spelt l r =
    record {
      item = AfterItem w r.by r.cases;
      rest = r.rest;
      good = record { known = is_known _ _ i; good = r.good };
      spelt = λ js q. spelt _ (r.spelt js q);
      less = fewer _ _ _ r.less l;
      takes = r.takes;
    }

pub after_read : (p : Program) (g : Seen) (ts : List Token) (x : Token) (xs : List Token) → ts ≡ x ∷ xs → x.kind ≡ Word (codes "after") →
    After (go (InRoute AfterName) (seen p)) xs g → ItemRead p ts g
after_read p g ts x xs e c a =
    next_word refl (λ y. refl) a (λ y ys w f k s. took_known y.at (find p.names.headers w) _ s (λ h i s. took_if (has_by h (seen p)) s
    (λ o s. refuses s)
    (λ o s. next_keyword (codes "by") refl (λ z. refl) s (λ z zs j l s.
    after_of_lem p g ts zs w h i (λ js q. put e c (put f k (put j l q))) (fewer _ _ _ (less j) (fewer _ _ _ (less f) (less e)))
    (subst (λ (m : ℕ). AfterRead p m zs g) (sym (is_the _ _ i)) (after_at p h g zs (is_none _ o) s))))))
