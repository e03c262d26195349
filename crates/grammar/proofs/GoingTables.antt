-- Tables that are spelt are read.
use Rattle.std.proofs.Common.{◌≡◌, ℕ, ◌+◌, ◌^◌, ◌<◌, ◌≤◌, true, ◌&&◌, ltb, List, [], ◌∷◌, ◌++◌, length, is_some, codes, refl, ap, arith}
use Rattle.std.proofs.lemmas.List.{append_assoc, length_push}
use Rattle.std.proofs.lemmas.Bool.{lt-ltb, and_from}
use Rattle.model.specs.Declarations.{TableDeclaration}
use Rattle.token.specs.declared.token.Sign.TheVariants.{Open, Close, Semicolon, Comma}
use Rattle.token.specs.Tokens.{Word, Number, Mark, token}
use Rattle.source.specs.State.{Names, Routes, Tables, Body, Seen, Phase, Item, InTable, InField, Listed, Named, Behind, Part, Looks, Sets, ListStart}
use Rattle.source.specs.Steps.{go}
use Rattle.source.specs.Using.{header_for, field_for, has_room, add_listed, behind_list}
use Rattle.source.specs.Reading.{step}
use Rattle.grammar.specs.Syntax.{Reference, TableItem}
use Rattle.grammar.specs.Spelling as spelling
use Rattle.grammar.specs.Spelling.{Piece, reference, references, further_references, item}
use Rattle.grammar.specs.Lookup.{Known, the, field}
use Rattle.grammar.specs.Program.{Program, seen}
use Rattle.grammar.specs.Tables.{fields_of, AllKnown, GoodTable, add_table}
use Rattle.grammar.proofs.Going.{Goes, next, by, to_state, known_is, fresh_goes, both_true, refers}

-- how many fields a list may have
abbrev pub limit : Part → ℕ
limit Looks = 4
limit Sets = 8

module _ (n : Names) (r : Routes) (T : List TableDeclaration) (b : Body) (l : Part) (X : List ℕ) where
  abbrev pub lists : Part → List ℕ → Tables
  lists Looks L = record { looks = L; sets = []; declared = T }
  lists Sets L = record { looks = X; sets = L; declared = T }

  abbrev pub at : List ℕ → Seen
  at L = record { names = n; routes = r; tables = lists l L; body = b }

  room_in : (k : Part) (L : List ℕ) → length L < limit k → has_room k (record { names = n; routes = r; tables = lists k L; body = b }) ≡ true
  room_in Looks L h = lt-ltb _ _ h
  room_in Sets L h = lt-ltb _ _ h

  pub added : (k : Part) (L : List ℕ) (f : ℕ) → add_listed k f (record { names = n; routes = r; tables = lists k L; body = b }) ≡
      record { names = n; routes = r; tables = lists k (L ++ f ∷ []); body = b }
  added Looks L f = refl
  added Sets L f = refl

  some_go : (rs : List Reference) (t : Reference) (p : Phase) (L : List ℕ) (ks : List Piece) →
      ((w : List ℕ) (i : ℕ) → step p (at L) (token (Word w) i) ≡ go (InField (Listed l) (Behind (header_for (Listed l) n w) (field_for (Listed l) n w) i)) (at L)) →
      length L + length (t ∷ rs) ≤ limit l → Known (field n t) → AllKnown n rs →
      Goes p (at L) (reference t (further_references rs (spelling.sign Semicolon ∷ ks))) (InTable (behind_list l)) (at (L ++ fields_of n (t ∷ rs))) ks
  some_go [] t p L ks s h k g =
      to_state (added l L (the (field n t)))
      (refers (Listed l) p (at L) s (the (field n t)) Semicolon (room_in l L (omega arith)) refl t (known_is _ k) (λ j. refl))
  some_go (t ∷ ts) u p L ks s h k g =
      next (to_state (added l L (the (field n u))) (refers (Listed l) p (at L) s (the (field n u)) Comma (room_in l L (omega arith)) refl u (known_is _ k) (λ j. refl)))
      (to_state (ap at (append_assoc L (the (field n u) ∷ []) (fields_of n (t ∷ ts))))
      (some_go ts t (InField (Listed l) Named) (L ++ the (field n u) ∷ []) ks (λ w i. refl) (omega (arith, length_push L (the (field n u)))) g.0 g.1))

  references_go : (rs : List Reference) (ks : List Piece) → length rs ≤ limit l → AllKnown n rs →
      Goes (InTable (ListStart l)) (at []) (references rs (spelling.sign Semicolon ∷ ks)) (InTable (behind_list l)) (at (fields_of n rs)) ks
  references_go [] ks h g = by (Mark Semicolon) refl (λ i. refl)
  references_go (t ∷ ts) ks h g = some_go ts t (InTable (ListStart l)) [] ks (λ w i. refl) (omega arith) g.0 g.1

few_lines : (n : ℕ) → 0 < n → n ≤ 256 → (ltb 0 n && ltb n 257) ≡ true
few_lines n s m = and_from _ _ (lt-ltb 0 n s) (lt-ltb n 257 (omega arith))

small : (n : ℕ) → n ≤ 256 → n < 2 ^ 32
small n m = omega arith

pub table_goes : (p : Program) (w : List ℕ) (looks sets : List Reference) (lines : ℕ) (ks : List Piece) → GoodTable p.names w looks sets lines →
    Goes Item (seen p) (item (TableItem w looks sets lines) ks) Item (seen (add_table w looks sets lines p)) ks
table_goes p w looks sets lines ks g =
    next (by (Word (codes "table")) refl (λ i. refl))
    (next (by (Word w) refl (λ i. fresh_goes _ i _ 32 w _ (ap is_some g.new.unused) g.new.short g.room))
    (next (by (Mark Open) refl (λ i. refl))
    (next (by (Word (codes "look")) refl (λ i. refl))
    (next (references_go _ _ p.tables _ Looks [] looks _ g.looks_few g.looks_known)
    (next (by (Word (codes "sets")) refl (λ i. refl))
    (next (references_go _ _ p.tables _ Sets (fields_of p.names looks) sets _ g.sets_few g.sets_known)
    (next (by (Word (codes "lines")) refl (λ i. refl))
    (next (by (Number lines) refl (λ i. both_true (ltb lines (2 ^ 32)) (ltb 0 lines && ltb lines 257) _ _ _ (lt-ltb _ _ (small _ g.most)) (few_lines _ g.some g.most)))
    (next (by (Mark Semicolon) refl (λ i. refl)) (by (Mark Close) refl (λ i. refl)))))))))))
