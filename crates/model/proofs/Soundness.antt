-- What a rule lays out within k stages is sound, whatever stages it finds, if none is before the lowest that the node may take.
use Rattle.std.proofs.Common.{◌≡◌, ℕ, suc, ◌+◌, ◌<◌, ◌≤◌, Bool, true, false, eqb, List, [], ◌∷◌, ◌++◌, length, sym, refl, ap, ◌∙◌, subst, le_refl, arith}
use Rattle.std.proofs.lemmas.List.{append-nil, append_assoc, length-append, length_push, get_or_at}
use Rattle.std.proofs.lemmas.Bool.{cond_both, ltb-true, eqb-true, eqb-false}
use Rattle.model.specs.Action.{Test, Action}
use Rattle.model.specs.Paths.{Paths, Stop, Apply, Branch, Act}
use Rattle.model.specs.Node.{Node, Halt, Look, Ask, Do, node, halt, node_at, in_place}
use Rattle.model.specs.Sound.{Lays, Layout}
use Rattle.model.specs.Placement.{Finder, size, table_from, still_changed, laid_from, laid, within}
use Rattle.model.proofs.Rows.{row_from, laid_row, laid_length, push_more, within_at}

-- a finder that takes no stage before the lowest
abbrev pub NotBefore : Finder → Type 0
NotBefore f = (table : Bool) (placed : List Node) (s : ℕ) → s ≤ f table placed s

-- the node n stands in the row ns right behind those placed, and it is in place
record Here (k : ℕ) (ns placed : List Node) (n : Node) : Type 0 where
  found : node_at ns (length placed) ≡ n
  inside : length placed < length ns
  in_place_lem : in_place k n ≡ true

here_from : (k : ℕ) (ns placed : List Node) (n : Node) (more : List Node) → within k ns ≡ true → ns ≡ placed ++ n ∷ more → Here k ns placed n
here_from k ns placed n more w e =
    let l = length-append placed (n ∷ more) in
    let g = ap length e in
    record {
      found = ap (λ (z : List Node). node_at z (length placed)) e ∙ get_or_at placed n more halt (length placed) refl;
      inside = omega arith;
      in_place_lem = within_at k placed n more (subst (λ (z : List Node). within k z ≡ true) e w);
    }

-- where the node behind those placed, and where a first part, stands in a row that goes on
behind_laid : (f : Finder) (ns placed : List Node) (n : Node) (s : ℕ) (b : Bool) (x : Paths) (rest : List Node) →
    ns ≡ laid_from f (placed ++ n ∷ []) s b x ++ rest → ns ≡ placed ++ n ∷ (row_from f (placed ++ n ∷ []) s b x ++ rest)
behind_laid f ns placed n s b x rest e =
    let row = row_from f (placed ++ n ∷ []) s b x in
    e ∙ ap (λ (z : List Node). z ++ rest) (laid_row f x (placed ++ n ∷ []) s b) ∙ append_assoc (placed ++ n ∷ []) row rest ∙ push_more placed n (row ++ rest)

first_laid : (f : Finder) (ns first : List Node) (s : ℕ) (b : Bool) (y : Paths) (rest : List Node) →
    ns ≡ laid_from f first s b y ++ rest → ns ≡ first ++ (row_from f first s b y ++ rest)
first_laid f ns first s b y rest e =
    e ∙ ap (λ (z : List Node). z ++ rest) (laid_row f y first s b) ∙ append_assoc first (row_from f first s b y) rest

module _ (k : ℕ) (ns placed : List Node) (s t st : ℕ) where
  applies_here : (o m : ℕ) (x : Paths) → Here k ns placed (node st (Look m (length placed + 1))) → s ≤ st → t ≤ st →
      Lays k ns (length placed + 1) st (suc st) x → Lays k ns (length placed) s t (Apply o m x)
  applies_here o m x h a b r =
      let e : (node_at ns (length placed)).stage ≡ st = ap (λ (n : Node). n.stage) h.found in
      let l : st < k = ltb-true st k h.in_place_lem in
      Lays.applies (ap (λ (n : Node). n.does) h.found) (omega arith) (omega arith) (omega arith) h.inside (omega arith)
      (subst (λ (z : ℕ). Lays k ns (length placed + 1) z (suc z) x) (sym e) r)

  acts_here : (o : ℕ) (a : Action) (x : Paths) → Here k ns placed (node st (Do a (length placed + 1))) → s ≤ st →
      Lays k ns (length placed + 1) st (suc st) x → Lays k ns (length placed) s t (Act o a x)
  acts_here o a x h b r =
      let e : (node_at ns (length placed)).stage ≡ st = ap (λ (n : Node). n.stage) h.found in
      let l : st < k = ltb-true st k h.in_place_lem in
      Lays.acts (ap (λ (n : Node). n.does) h.found) (omega arith) (omega arith) h.inside (omega arith)
      (subst (λ (z : ℕ). Lays k ns (length placed + 1) z (suc z) x) (sym e) r)

  branches_here : (o : ℕ) (c : Test) (x y : Paths) → Here k ns placed (node st (Ask c (length placed + 1) (length placed + 1 + size x))) → s ≤ st →
      Lays k ns (length placed + 1) st t x → Lays k ns (length placed + 1 + size x) st t y → Lays k ns (length placed) s t (Branch o c x y)
  branches_here o c x y h b r q =
      let e : (node_at ns (length placed)).stage ≡ st = ap (λ (n : Node). n.stage) h.found in
      let l : st < k = ltb-true st k h.in_place_lem in
      Lays.branches (ap (λ (n : Node). n.does) h.found) (omega arith) (omega arith) h.inside (omega arith) (omega arith)
      (subst (λ (z : ℕ). Lays k ns (length placed + 1) z t x) (sym e) r)
      (subst (λ (z : ℕ). Lays k ns (length placed + 1 + size x) z t y) (sym e) q)

-- the lowest stage for a table is not before that of the node before, and stays a bound when a node moves
from_not_before : (s : ℕ) (b : Bool) → s ≤ table_from s b
from_not_before s true = omega arith
from_not_before s false = le_refl s

from_moved : (t s st : ℕ) (b : Bool) → t ≤ table_from s b → s ≤ st → t ≤ table_from st (still_changed b s st)
from_moved t s st true h g =
    cond_both (eqb st s) (suc st) st (λ z. t ≤ z) (λ e. let q = eqb-true st s e in omega arith) (λ e. let q : (st ≡ s → ⊥) = eqb-false st s e in omega arith)
from_moved t s st false h g = omega arith

pub sound_from : (f : Finder) → NotBefore f → (k : ℕ) (ns : List Node) → within k ns ≡ true → (x : Paths) (placed : List Node) (s : ℕ) (b : Bool) (t : ℕ) (rest : List Node) →
    ns ≡ laid_from f placed s b x ++ rest → t ≤ table_from s b → Lays k ns (length placed) s t x
unfolding laid_from
sound_from f before k ns w (Stop o) placed s b t rest e h =
    Lays.stops (ap (λ (n : Node). n.does) (here_from k ns placed (node 0 Halt) rest w (e ∙ push_more placed (node 0 Halt) rest)).found)
sound_from f before k ns w (Apply o m x) placed s b t rest e h =
    let st = f true placed (table_from s b) in
    let here = node st (Look m (length placed + 1)) in
    let l : table_from s b ≤ st = before true placed (table_from s b) in
    let g = from_not_before s b in
    let r = sound_from f before k ns w x (placed ++ here ∷ []) st true (suc st) rest e (le_refl (suc st)) in
    applies_here k ns placed s t st o m x (here_from k ns placed here _ w (behind_laid f ns placed here st true x rest e)) (omega arith) (omega arith)
    (subst (λ (z : ℕ). Lays k ns z st (suc st) x) (length_push placed here) r)
sound_from f before k ns w (Branch o c x y) placed s b t rest e h =
    let st = f false placed s in
    let b2 = still_changed b s st in
    let here = node st (Ask c (length placed + 1) (length placed + 1 + size x)) in
    let first = laid_from f (placed ++ here ∷ []) st b2 x in
    let l : s ≤ st = before false placed s in
    let e2 = first_laid f ns first st b2 y rest e in
    let h2 = from_moved t s st b h l in
    let r = sound_from f before k ns w x (placed ++ here ∷ []) st b2 t (row_from f first st b2 y ++ rest) e2 h2 in
    let q = sound_from f before k ns w y first st b2 t rest e h2 in
    let i = length_push placed here in
    let j : length first ≡ length placed + 1 + size x = laid_length f x (placed ++ here ∷ []) st b2 ∙ ap (λ (z : ℕ). z + size x) i in
    branches_here k ns placed s t st o c x y (here_from k ns placed here _ w (behind_laid f ns placed here st b2 x _ e2)) l
    (subst (λ (z : ℕ). Lays k ns z st t x) i r) (subst (λ (z : ℕ). Lays k ns z st t y) j q)
sound_from f before k ns w (Act o a x) placed s b t rest e h =
    let st = f false placed s in
    let here = node st (Do a (length placed + 1)) in
    let l : s ≤ st = before false placed s in
    let r = sound_from f before k ns w x (placed ++ here ∷ []) st true (suc st) rest e (le_refl (suc st)) in
    acts_here k ns placed s t st o a x (here_from k ns placed here _ w (behind_laid f ns placed here st true x rest e)) l
    (subst (λ (z : ℕ). Lays k ns z st (suc st) x) (length_push placed here) r)

pub laid_sound : (f : Finder) → NotBefore f → (k : ℕ) (x : Paths) → within k (laid f x) ≡ true → Layout k (laid f x) x
laid_sound f before k x w = sound_from f before k (laid f x) w x [] 0 false 0 [] (sym (append-nil (laid f x))) (le_refl 0)
