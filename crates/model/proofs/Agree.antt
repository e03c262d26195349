-- The two rules agree as long as no stage is full.
use Rattle.std.proofs.Common.{◌≡◌, ℕ, ◌+◌, Bool, true, false, cond, not, ◌&&◌, eqb, List, [], ◌∷◌, ◌++◌, length, refl, ap, ◌∙◌, subst, arith}
use Rattle.std.proofs.lemmas.Bool.{eq-eqb}
use Rattle.model.specs.Paths.{Paths, Stop, Apply, Branch, Act}
use Rattle.model.specs.Node.{Node, Does, Look, Ask, Do, node, halts, looks}
use Rattle.model.specs.Placement.{has_room, unlimited, limited, size, table_from, still_changed, laid_from, rule, plain_rule}
use Rattle.model.proofs.Rows.{node_here, table_here, nodes_append, tables_append, nodes_before, tables_before, laid_row, push_more}
use Rattle.model.proofs.Room.{room_from, limited_stays}
use Rattle.model.proofs.NeverFull.{Fits}

-- the front of a row that fits fits
fits_front : (xs ys : List Node) → Fits (xs ++ ys) → Fits xs
fits_front xs ys fits s =
    let a = nodes_append s xs ys in
    let b = tables_append s xs ys in
    (omega (arith, (fits s).0), omega (arith, (fits s).1))

-- where a row fits, each of its nodes had room
room_before : (xs : List Node) (st : ℕ) (d : Does) (ys : List Node) → halts d ≡ false → Fits (xs ++ node st d ∷ ys) → has_room (looks d) xs st ≡ true
room_before xs st d ys q fits =
    let a = nodes_before st xs (node st d) ys in
    let b = tables_before st xs (node st d) ys in
    let same : eqb st st ≡ true = eq-eqb st st refl in
    let c : node_here st (node st d) ≡ 1 = ap {B = ℕ} (λ (z : Bool). cond (z && not (halts d)) 1 0) same ∙ ap {B = ℕ} (λ (z : Bool). cond (not z) 1 0) q in
    let g : table_here st (node st d) ≡ cond (looks d) 1 0 = ap {B = ℕ} (λ (z : Bool). cond (z && looks d) 1 0) same in
    room_from (looks d) xs st (omega (arith, (fits st).0))
    (λ e. let i : table_here st (node st d) ≡ 1 = g ∙ ap {B = ℕ} (λ (z : Bool). cond z 1 0) e in omega (arith, (fits st).1))

-- the stage that the next node of the plain row takes is the one that the rule finds
same_stage : (xs : List Node) (st : ℕ) (d : Does) (s : ℕ) (b : Bool) (x : Paths) → halts d ≡ false → Fits (laid_from unlimited (xs ++ node st d ∷ []) s b x) → limited (looks d) xs st ≡ st
same_stage xs st d s b x q fits =
    let e = laid_row unlimited x (xs ++ node st d ∷ []) s b ∙ push_more xs (node st d) _ in
    limited_stays (looks d) xs st (room_before xs st d _ q (subst Fits e fits))

agree_from : (x : Paths) (placed : List Node) (s : ℕ) (b : Bool) → Fits (laid_from unlimited placed s b x) → laid_from limited placed s b x ≡ laid_from unlimited placed s b x
unfolding laid_from
agree_from (Stop o) placed s b fits = refl
agree_from (Apply o n x) placed s b fits =
    let u = table_from s b in
    let e = same_stage placed u (Look n (length placed + 1)) u true x refl fits in
    ap (λ (z : ℕ). laid_from limited (placed ++ node z (Look n (length placed + 1)) ∷ []) z true x) e ∙ agree_from x _ u true fits
agree_from (Branch o c x y) placed s b fits =
    let b2 = still_changed b s s in
    let d = Ask c (length placed + 1) (length placed + 1 + size x) in
    let first = laid_from unlimited (placed ++ node s d ∷ []) s b2 x in
    let firstFits = fits_front first _ (subst Fits (laid_row unlimited y first s b2) fits) in
    let e = same_stage placed s d s b2 x refl firstFits in
    ap (λ (z : ℕ). laid_from limited (laid_from limited (placed ++ node z d ∷ []) z (still_changed b s z) x) z (still_changed b s z) y) e ∙
    ap (λ (z : List Node). laid_from limited z s b2 y) (agree_from x _ s b2 firstFits) ∙
    agree_from y first s b2 fits
agree_from (Act o a x) placed s b fits =
    let e = same_stage placed s (Do a (length placed + 1)) s true x refl fits in
    ap (λ (z : ℕ). laid_from limited (placed ++ node z (Do a (length placed + 1)) ∷ []) z true x) e ∙ agree_from x _ s true fits

pub rules_agree : (x : Paths) → Fits (plain_rule x) → rule x ≡ plain_rule x
rules_agree x fits = agree_from x [] 0 false fits
