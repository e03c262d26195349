-- Placement that stops at one node too many is the rule: the rule's row, or the smallest offset out of place.
use Rattle.std.proofs.Common.{◌≡◌, ℕ, suc, ◌+◌, ◌-◌, ◌<◌, ◌≤◌, Bool, true, false, cond, ltb, leb, List, [], ◌∷◌, ◌++◌, length, set, sym, refl, ap, ◌∙◌, ap₂, zero-le, arith}
use Rattle.std.proofs.lemmas.List.{length-append, length_push}
use Rattle.std.proofs.lemmas.Bool.{cond_both, cond-true, cond-false, ltb-true, ltb-false, leb-true, leb-false, le-leb, lt-leb}
use Rattle.model.specs.Paths.{Paths, Stop, Apply, Branch, Act}
use Rattle.model.specs.Node.{Node, Halt, Look, Ask, Do, node}
use Rattle.model.specs.Placement.{limited, size, table_from, still_changed, laid_from, rule}
use Rattle.model.specs.Stopping.{offsets, misplaced, Lowest, None, At, lower, lowest, verdict, placement, Progress, Going, Stopped, and_then, ended, offset_of, if_room, noted, stopping, stopped}
use Rattle.model.specs.Promises.{StoppingIsTheRule}
use Rattle.model.proofs.Rows.{row_from, laid_row, row_length, laid_length}
use Rattle.model.proofs.Alike.{row_patched, patched}
use Rattle.model.proofs.Misplaced.{misplaced_first, misplaced_both, lowest_one, lowest_append, lowest_smallest, none_to_all, all_to_none, placed_to_none, none_to_placed, refused_smallest}

offsets_length : (x : Paths) → length (offsets x) ≡ size x
unfolding offsets size
offsets_length (Stop o) = refl
offsets_length (Apply o n x) = ap suc (offsets_length x)
offsets_length (Branch o c x y) = ap suc (length-append (offsets x) (offsets y) ∙ ap₂ (λ (a b : ℕ). a + b) (offsets_length x) (offsets_length y))
offsets_length (Act o a x) = ap suc (offsets_length x)

rule_length : (x : Paths) → length (rule x) ≡ size x
rule_length x = let h = laid_length limited x [] 0 false in omega arith

-- stopped at the smallest offset seen
abbrev stopped_at : Lowest → Progress
stopped_at None = Stopped 0
stopped_at (At o) = Stopped o

stopped_lower : (w : Lowest) (o : ℕ) → stopped_at (lower w o) ≡ Stopped (offset_of w o)
stopped_lower None o = refl
stopped_lower (At p) o = refl

stopped_then : (w : Lowest) (f : List Node → Lowest → Progress) → and_then (stopped_at w) f ≡ stopped_at w
stopped_then None f = refl
stopped_then (At o) f = refl

-- what comes of a row of so many nodes, with the smallest offset out of place
abbrev outcome : ℕ → ℕ → List Node → Lowest → Progress
outcome most long row w = cond (leb long most) (Going row w) (stopped_at w)

goes_on : (most long : ℕ) (row : List Node) (w : Lowest) → long ≤ most → outcome most long row w ≡ Going row w
goes_on most long row w h = cond-true (leb long most) (Going row w) (stopped_at w) (le-leb long most h)

stops_there : (most long : ℕ) (row : List Node) (w : Lowest) → most < long → outcome most long row w ≡ stopped_at w
stops_there most long row w h = cond-false (leb long most) (Going row w) (stopped_at w) (lt-leb long most h)

module _ (k most : ℕ) where
  -- one node in front of what follows
  one : (row : List Node) (l : ℕ) (w : Lowest) (o : ℕ) (here : Node) (ns : List Node) (os : List ℕ) (n : ℕ) (all : List Node) (go : Progress) → length row ≡ l → l ≤ most →
      (l + 1 ≤ most → go ≡ outcome most (l + 1 + n) all (lowest (noted k w here o) (misplaced k (most - (l + 1)) ns os))) →
      if_room most row w o go ≡ outcome most (l + suc n) all (lowest w (misplaced k (most - l) (here ∷ ns) (o ∷ os)))
  unfolding misplaced lowest
  one row l w o here ns os n all go e h g =
      cond_both (ltb (length row) most) go (Stopped (offset_of w o)) (λ z. z ≡ outcome most (l + suc n) all (lowest w (misplaced k (most - l) (here ∷ ns) (o ∷ os))))
      (λ q. let r = ltb-true (length row) most q in
      let i : suc (most - (l + 1)) ≡ most - l = omega arith in
      let j : l + 1 + n ≡ l + suc n = omega arith in
      g (omega arith) ∙ ap₂ (λ (z : ℕ) (v : Lowest). outcome most z all v) j
      (sym (lowest_one k (most - (l + 1)) w here ns o os) ∙ ap (λ (z : ℕ). lowest w (misplaced k z (here ∷ ns) (o ∷ os))) i))
      (λ q. let r = ltb-false (length row) most q in
      let i : 0 ≡ most - l = omega arith in
      sym (stopped_lower w o) ∙ sym (stops_there most (l + suc n) all (lower w o) (omega arith)) ∙
      ap (λ (z : ℕ). outcome most (l + suc n) all (lowest w (misplaced k z (here ∷ ns) (o ∷ os)))) i)

  -- a first part, and a second behind it
  two : (l a b : ℕ) (w : Lowest) (xs ys : List Node) (os ps : List ℕ) (first all : List Node) (f : List Node → Lowest → Progress) → l ≤ most → length xs ≡ a → length os ≡ a →
      ((v : Lowest) → l + a ≤ most → f first v ≡ outcome most (l + a + b) all (lowest v (misplaced k (most - (l + a)) ys ps))) →
      and_then (outcome most (l + a) first (lowest w (misplaced k (most - l) xs os))) f ≡ outcome most (l + (a + b)) all (lowest w (misplaced k (most - l) (xs ++ ys) (os ++ ps)))
  two l a b w xs ys os ps first all f h ex eo g =
      let v = lowest w (misplaced k (most - l) xs os) in
      cond_both (leb (l + a) most) (Going first v) (stopped_at v) (λ z. and_then z f ≡ outcome most (l + (a + b)) all (lowest w (misplaced k (most - l) (xs ++ ys) (os ++ ps))))
      (λ q. let r = leb-true (l + a) most q in
      let i : most - (l + a) ≡ (most - l) - length xs = omega arith in
      let j : l + a + b ≡ l + (a + b) = omega arith in
      let first_fits : length xs ≤ most - l = omega arith in
      g v r ∙ ap₂ (λ (z : ℕ) (u : Lowest). outcome most z all u) j
      (ap (λ (z : ℕ). lowest v (misplaced k z ys ps)) i ∙
      sym (lowest_append w (misplaced k (most - l) xs os) (misplaced k ((most - l) - length xs) ys ps)) ∙
      ap (lowest w) (sym (misplaced_both k (most - l) xs ys os ps (eo ∙ sym ex) first_fits))))
      (λ q. let r = leb-false (l + a) most q in
      let too_long : most - l < length xs = omega arith in
      stopped_then v f ∙ ap (λ (z : List ℕ). stopped_at (lowest w z)) (sym (misplaced_first k (most - l) xs ys os ps (eo ∙ sym ex) too_long)) ∙
      sym (stops_there most (l + (a + b)) all _ (omega arith)))

  stopping_is : (x : Paths) (row : List Node) (w : Lowest) (s : ℕ) (b : Bool) (l : ℕ) → length row ≡ l → l ≤ most →
      stopping k most row w s b x ≡ outcome most (l + size x) (laid_from limited row s b x) (lowest w (misplaced k (most - l) (row_from limited row s b x) (offsets x)))
  unfolding stopping size laid_from row_from offsets
  stopping_is (Stop o) row w s b l e h =
      one row l w o (node 0 Halt) [] [] 0 (row ++ node 0 Halt ∷ []) (Going (row ++ node 0 Halt ∷ []) w) e h
      (λ g. sym (unfold misplaced lowest in goes_on most (l + 1 + 0) (row ++ node 0 Halt ∷ []) w (omega arith)))
  stopping_is (Apply o n x) row w s b l e h =
      let st = limited true row (table_from s b) in
      let here = node st (Look n (length row + 1)) in
      one row l w o here _ (offsets x) (size x) _ _ e h
      (λ g. stopping_is x (row ++ here ∷ []) (noted k w here o) st true (l + 1) (length_push row here ∙ ap (λ (z : ℕ). z + 1) e) g)
  stopping_is (Branch o c x y) row w s b l e h =
      let st = limited false row s in
      let b2 = still_changed b s st in
      let here = λ (j : ℕ). node st (Ask c (length row + 1) j) in
      let no-from = length row + 1 + size x in
      let first = laid_from limited (row ++ here no-from ∷ []) st b2 x in
      let w2 = noted k w (here 0) o in
      let f = λ (row2 : List Node) (v : Lowest). stopping k most (set row2 (length row) (here (length row2))) v st b2 y in
      let long : length first ≡ l + 1 + size x = laid_length limited x (row ++ here no-from ∷ []) st b2 ∙ ap (λ (z : ℕ). z + size x) (length_push row (here no-from) ∙ ap (λ (z : ℕ). z + 1) e) in
      one row l w o (here no-from) _ (offsets x ++ offsets y) (size x + size y) _ _ e h
      (λ g.
      ap (λ (z : Progress). and_then z f)
      (stopping_is x (row ++ here 0 ∷ []) w2 st b2 (l + 1) (length_push row (here 0) ∙ ap (λ (z : ℕ). z + 1) e) g ∙
      ap (λ (z : List Node). outcome most (l + 1 + size x) (laid_from limited (row ++ here 0 ∷ []) st b2 x) (lowest w2 (misplaced k (most - (l + 1)) z (offsets x))))
      (row_patched row st c (length row + 1) 0 no-from st b2 x)) ∙
      two (l + 1) (size x) (size y) w2 (row_from limited (row ++ here no-from ∷ []) st b2 x) (row_from limited first st b2 y) (offsets x) (offsets y)
      (laid_from limited (row ++ here 0 ∷ []) st b2 x) (laid_from limited first st b2 y) f g
      (row_length limited x (row ++ here no-from ∷ []) st b2) (offsets_length x)
      (λ v i. ap (λ (z : List Node). stopping k most z v st b2 y) (patched row st c (length row + 1) st b2 x) ∙ stopping_is y first v st b2 (l + 1 + size x) long i))
  stopping_is (Act o a x) row w s b l e h =
      let st = limited false row s in
      let here = node st (Do a (length row + 1)) in
      one row l w o here _ (offsets x) (size x) _ _ e h
      (λ g. stopping_is x (row ++ here ∷ []) (noted k w here o) st true (l + 1) (length_push row here ∙ ap (λ (z : ℕ). z + 1) e) g)

  -- too long a row has a node out of place, so the offset where it stops is the smallest
  ended_outcome : (row : List Node) (os ms : List ℕ) → length os ≡ length row → misplaced k most row os ≡ ms → ended (outcome most (length row) row (lowest None ms)) ≡ verdict row (lowest None ms)
  unfolding lowest
  ended_outcome row os [] e h = ap ended (goes_on most (length row) row None (none_to_all k most row os e h).1)
  ended_outcome row os (m ∷ ms) e h =
      let r = lowest_smallest m ms in
      ap (λ (z : Lowest). ended (outcome most (length row) row z)) r.is ∙
      cond_both (leb (length row) most) (Going row (At r.offset)) (Stopped r.offset) (λ z. ended z ≡ verdict row (At r.offset)) (λ i. refl) (λ i. refl) ∙
      ap (verdict row) (sym r.is)

  stopped_is : (x : Paths) → stopped k most x ≡ placement k most x
  stopped_is x =
      let row = row_from limited [] 0 false x in
      let e : rule x ≡ row = laid_row limited x [] 0 false in
      let i : most - 0 ≡ most = omega arith in
      let n = rule_length x in
      let j : 0 + size x ≡ length (rule x) = omega arith in
      ap ended (stopping_is x [] None 0 false 0 refl zero-le) ∙
      ap₂ (λ (z : ℕ) (r : List Node). ended (outcome most (0 + size x) (rule x) (lowest None (misplaced k z r (offsets x))))) i (sym e) ∙
      ap (λ (z : ℕ). ended (outcome most z (rule x) (lowest None (misplaced k most (rule x) (offsets x))))) j ∙
      ended_outcome (rule x) (offsets x) _ (offsets_length x ∙ sym n) refl

pub stopping_is_the_rule : StoppingIsTheRule
stopping_is_the_rule k most x =
    let same = stopped_is k most x in
    let ms = misplaced k most (rule x) (offsets x) in
    let long : length (offsets x) ≡ length (rule x) = offsets_length x ∙ sym (rule_length x) in
    record {
      same = same;
      placed = (λ h. placed_to_none (rule x) ms (sym same ∙ h), λ h. same ∙ none_to_placed (rule x) ms h);
      all_in_place = (λ h. none_to_all k most (rule x) (offsets x) long h, λ h. all_to_none k most (rule x) (offsets x) h.0 h.1);
      refused = λ o h. refused_smallest (rule x) ms o (sym same ∙ h);
    }
