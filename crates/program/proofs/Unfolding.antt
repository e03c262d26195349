-- The paths from an index of a program on, by the statement that stands there.
use Rattle.std.proofs.Common.{◌≡◌, ℕ, zero, suc, ◌+◌, ◌<◌, ◌≤◌, min, List, [], ◌∷◌, length, get_or, drop, sym, refl, ap, ◌∙◌, ap₂, ⊎_elim, arith}
use Rattle.std.proofs.lemmas.List.{get_or-drop, get_or_past, get_or-map, drop_more, length-map}
use Rattle.std.proofs.lemmas.Bool.{cases_lt}
use Rattle.model.specs.Paths as paths
use Rattle.model.specs.Statements as statements
use Rattle.model.specs.Statements.{paths_of_kind, paths_from_each, paths_at}
use Rattle.program.specs.declared.action.Action.{Action}
use Rattle.program.specs.declared.action.Test.{Test}
use Rattle.program.specs.declared.statement.Kind.{Kind}
use Rattle.program.specs.declared.statement.Kind.TheVariants.{Act, Apply, If, Skip}
use Rattle.program.specs.declared.statement.Statement.{Statement}
use Rattle.program.specs.Stands.{TableNo, test_of, action_of, statement_kind_of, statement_of, statements_of}

each_length : (end : ℕ) (xs : List statements.Statement) → length (paths_from_each end xs) ≡ length xs
unfolding paths_from_each
each_length end [] = refl
each_length end (x ∷ xs) = ap suc (each_length end xs)

each_drop : (end : ℕ) (n : ℕ) (xs : List statements.Statement) → paths_from_each end (drop n xs) ≡ drop n (paths_from_each end xs)
unfolding paths_from_each
each_drop end zero xs = refl
each_drop end (suc n) [] = refl
each_drop end (suc n) (x ∷ xs) = each_drop end n xs

paths_drop : (end n : ℕ) (xs : List statements.Statement) (m : ℕ) → paths_at end (drop n xs) m ≡ paths_at end xs (n + m)
paths_drop end n xs m = ap (λ (z : List paths.Paths). get_or z m (paths.Stop end)) (each_drop end n xs) ∙ get_or-drop n (paths_from_each end xs) m (paths.Stop end)

paths_past : (end : ℕ) (xs : List statements.Statement) (i : ℕ) → length xs ≤ i → paths_at end xs i ≡ paths.Stop end
paths_past end xs i h = let e = each_length end xs in get_or_past (paths_from_each end xs) i (paths.Stop end) (omega arith)

paths_first : (end : ℕ) (x : statements.Statement) (xs : List statements.Statement) → paths_at end (x ∷ xs) 0 ≡ paths_of_kind end x.offset x.kind (paths_from_each end xs)
unfolding paths_from_each
paths_first end x xs = refl

module _ (end : ℕ) (ss : List Statement) where
  -- past the last statement is the end
  pub at_end : (i : ℕ) → length ss ≤ i → paths_at end (statements_of ss) i ≡ paths.Stop end
  at_end i h = let e = length-map ss statement_of in paths_past end (statements_of ss) i (omega arith)

  -- a jump that lands at most at the end
  pub at_landing : (i : ℕ) → paths_at end (statements_of ss) (min (length ss) i) ≡ paths_at end (statements_of ss) i
  at_landing i =
      ⊎_elim (λ (q : i < length ss). let e : min (length ss) i ≡ i = omega arith in ap (paths_at end (statements_of ss)) e)
      (λ (q : length ss ≤ i). at_end (min (length ss) i) (omega arith) ∙ sym (at_end i q))
      (cases_lt i (length ss))

  -- x: the statement at index i
  module _ (i : ℕ) (x : Statement) (h : i < length ss) (is : x ≡ get_or ss i x) where
    here : paths_at end (statements_of ss) i ≡ paths_of_kind end x.offset (statement_kind_of x.kind) (paths_from_each end (drop (i + 1) (statements_of ss)))
    here =
        let n = length-map ss statement_of in
        let long : i < length (statements_of ss) = omega arith in
        let e : i + 0 ≡ i = omega arith in
        ap (paths_at end (statements_of ss)) (sym e) ∙ sym (paths_drop end i (statements_of ss) 0) ∙
        ap (λ (z : List statements.Statement). paths_at end z 0) (drop_more (statements_of ss) i (statement_of x) long) ∙
        paths_first end _ _ ∙
        ap (λ (z : statements.Statement). paths_of_kind end z.offset z.kind (paths_from_each end (drop (i + 1) (statements_of ss)))) (get_or-map statement_of ss i x (statement_of x) h ∙ ap statement_of (sym is))

    follows : paths_at end (drop (i + 1) (statements_of ss)) 0 ≡ paths_at end (statements_of ss) (i + 1)
    follows = let e : i + 1 + 0 ≡ i + 1 = omega arith in paths_drop end (i + 1) (statements_of ss) 0 ∙ ap (paths_at end (statements_of ss)) e

    of_kind : (k : Kind) → x.kind ≡ k → paths_at end (statements_of ss) i ≡ paths_of_kind end x.offset (statement_kind_of k) (paths_from_each end (drop (i + 1) (statements_of ss)))
    of_kind k e = here ∙ ap (λ (z : Kind). paths_of_kind end x.offset (statement_kind_of z) (paths_from_each end (drop (i + 1) (statements_of ss)))) e

    landed : (j n : ℕ) → j ≡ min (length ss) (i + 1 + n) → paths_at end (drop (i + 1) (statements_of ss)) n ≡ paths_at end (statements_of ss) j
    landed j n e = paths_drop end (i + 1) (statements_of ss) n ∙ sym (at_landing (i + 1 + n)) ∙ ap (paths_at end (statements_of ss)) (sym e)

    pub at_act : (a : Action) → x.kind ≡ Act a → paths_at end (statements_of ss) i ≡ paths.Act x.offset (action_of a) (paths_at end (statements_of ss) (i + 1))
    at_act a e = of_kind (Act a) e ∙ ap (paths.Act x.offset (action_of a)) follows

    pub at_apply : (t : TableNo) → x.kind ≡ Apply t → paths_at end (statements_of ss) i ≡ paths.Apply x.offset t.at (paths_at end (statements_of ss) (i + 1))
    at_apply t e = of_kind (Apply t) e ∙ ap (paths.Apply x.offset t.at) follows

    pub at_if : (c : Test) (n j : ℕ) → x.kind ≡ If c n → j ≡ min (length ss) (i + 1 + n) →
        paths_at end (statements_of ss) i ≡ paths.Branch x.offset (test_of c) (paths_at end (statements_of ss) (i + 1)) (paths_at end (statements_of ss) j)
    at_if c n j e l = of_kind (If c n) e ∙ ap₂ (paths.Branch x.offset (test_of c)) follows (landed j n l)

    pub at_skip : (n j : ℕ) → x.kind ≡ Skip n → j ≡ min (length ss) (i + 1 + n) → paths_at end (statements_of ss) i ≡ paths_at end (statements_of ss) j
    at_skip n j e l = of_kind (Skip n) e ∙ landed j n l
