-- Rows that differ only in where the no paths of their branches begin are continued alike; so such an index can be written in later.
use Rattle.std.proofs.Common.{◌≡◌, ℕ, zero, suc, ◌+◌, ◌-◌, max, Bool, true, false, cond, not, ◌&&◌, ◌||◌, eqb, ltb, List, [], ◌∷◌, ◌++◌, map, length, set, sym, refl, ap, ◌∙◌, ap₂}
use Rattle.std.proofs.lemmas.List.{length_push, length-map, map-append, set_at}
use Rattle.model.specs.Action.{Test}
use Rattle.model.specs.Paths.{Paths, Stop, Apply, Branch, Act}
use Rattle.model.specs.Node.{Node, Does, Halt, Look, Ask, Do, node, halts, looks}
use Rattle.model.specs.Placement.{nodes_on, tables_on, most_nodes, most_tables, has_room, beyond, room_among, limited, size, table_from, still_changed, laid_from}
use Rattle.model.proofs.Rows.{row_from, laid_row, laid_length, push_more}

-- what a node does, but for where its no path begins
abbrev blank_does : Does → Does
blank_does Halt = Halt
blank_does (Look n i) = Look n i
blank_does (Ask c i j) = Ask c i 0
blank_does (Do a i) = Do a i

abbrev pub blank : Node → Node
blank n = node n.stage (blank_does n.does)

halts_blank : (d : Does) → halts (blank_does d) ≡ halts d
halts_blank Halt = refl
halts_blank (Look n i) = refl
halts_blank (Ask c i j) = refl
halts_blank (Do a i) = refl

looks_blank : (d : Does) → looks (blank_does d) ≡ looks d
looks_blank Halt = refl
looks_blank (Look n i) = refl
looks_blank (Ask c i j) = refl
looks_blank (Do a i) = refl

-- all that the search for room looks at stays
nodes_blank : (s : ℕ) (ns : List Node) → nodes_on s (map blank ns) ≡ nodes_on s ns
unfolding nodes_on
nodes_blank s [] = refl
nodes_blank s (n ∷ ns) = ap₂ {C = ℕ} (λ (h : Bool) (r : ℕ). cond (eqb n.stage s && not h) 1 0 + r) (halts_blank n.does) (nodes_blank s ns)

tables_blank : (s : ℕ) (ns : List Node) → tables_on s (map blank ns) ≡ tables_on s ns
unfolding tables_on
tables_blank s [] = refl
tables_blank s (n ∷ ns) = ap₂ {C = ℕ} (λ (h : Bool) (r : ℕ). cond (eqb n.stage s && h) 1 0 + r) (looks_blank n.does) (tables_blank s ns)

beyond_blank : (ns : List Node) → beyond (map blank ns) ≡ beyond ns
unfolding beyond
beyond_blank [] = refl
beyond_blank (n ∷ ns) = ap (λ (z : ℕ). max (suc n.stage) z) (beyond_blank ns)

room_blank : (table : Bool) (ns : List Node) (s : ℕ) → has_room table (map blank ns) s ≡ has_room table ns s
room_blank table ns s = ap₂ (λ (a b : ℕ). ltb a most_nodes && (not table || ltb b most_tables)) (nodes_blank s ns) (tables_blank s ns)

among_blank : (more : ℕ) (table : Bool) (ns : List Node) (s : ℕ) → room_among more table (map blank ns) s ≡ room_among more table ns s
unfolding room_among
among_blank zero table ns s = refl
among_blank (suc more) table ns s = ap₂ (λ (h : Bool) (r : ℕ). cond h s r) (room_blank table ns s) (among_blank more table ns (suc s))

limited_blank : (table : Bool) (ns : List Node) (s : ℕ) → limited table (map blank ns) s ≡ limited table ns s
limited_blank table ns s = ap (λ (z : ℕ). room_among (z - s) table (map blank ns) s) (beyond_blank ns) ∙ among_blank (beyond ns - s) table ns s

-- rows that are the same but for where no paths begin
abbrev pub Alike : List Node → List Node → Type 0
Alike ds es = map blank ds ≡ map blank es

limited_alike : (table : Bool) (ds es : List Node) (s : ℕ) → Alike ds es → limited table ds s ≡ limited table es s
limited_alike table ds es s h = sym (limited_blank table ds s) ∙ ap (λ (z : List Node). limited table z s) h ∙ limited_blank table es s

length_alike : (ds es : List Node) → Alike ds es → length ds ≡ length es
length_alike ds es h = sym (length-map ds blank) ∙ ap length h ∙ length-map es blank

alike_append : (ds es xs ys : List Node) → Alike ds es → Alike xs ys → Alike (ds ++ xs) (es ++ ys)
alike_append ds es xs ys h g = map-append blank ds xs ∙ ap₂ (λ (a b : List Node). a ++ b) h g ∙ sym (map-append blank es ys)

-- the same is appended to rows that are alike
pub row_alike : (x : Paths) (ds es : List Node) (s : ℕ) (b : Bool) → Alike ds es → row_from limited ds s b x ≡ row_from limited es s b x
unfolding row_from
row_alike (Stop o) ds es s b h = refl
row_alike (Apply o n x) ds es s b h =
    let here = λ (st l : ℕ). node st (Look n (l + 1)) in
    let st = limited true es (table_from s b) in
    ap₂ (λ (z l : ℕ). here z l ∷ row_from limited (ds ++ here z l ∷ []) z true x) (limited_alike true ds es (table_from s b) h) (length_alike ds es h) ∙
    ap {B = List Node} (λ (r : List Node). here st (length es) ∷ r) (row_alike x _ _ st true (alike_append ds es _ _ h refl))
row_alike (Branch o c x y) ds es s b h =
    let here = λ (st l : ℕ). node st (Ask c (l + 1) (l + 1 + size x)) in
    let st = limited false es s in
    let b2 = still_changed b s st in
    let node2 = here st (length es) in
    let both = alike_append ds es (node2 ∷ []) (node2 ∷ []) h refl in
    let ex = row_alike x (ds ++ node2 ∷ []) (es ++ node2 ∷ []) st b2 both in
    let first : Alike (laid_from limited (ds ++ node2 ∷ []) st b2 x) (laid_from limited (es ++ node2 ∷ []) st b2 x) =
    ap (map blank) (laid_row limited x (ds ++ node2 ∷ []) st b2) ∙
    alike_append (ds ++ node2 ∷ []) (es ++ node2 ∷ []) _ _ both (ap (map blank) ex) ∙
    sym (ap (map blank) (laid_row limited x (es ++ node2 ∷ []) st b2)) in
    ap₂ (λ (z l : ℕ). here z l ∷ (row_from limited (ds ++ here z l ∷ []) z (still_changed b s z) x ++ row_from limited (laid_from limited (ds ++ here z l ∷ []) z (still_changed b s z) x) z (still_changed b s z) y))
    (limited_alike false ds es s h) (length_alike ds es h) ∙
    ap₂ {C = List Node} (λ (p q : List Node). node2 ∷ (p ++ q)) ex (row_alike y _ _ st b2 first)
row_alike (Act o a x) ds es s b h =
    let here = λ (st l : ℕ). node st (Do a (l + 1)) in
    let st = limited false es s in
    ap₂ (λ (z l : ℕ). here z l ∷ row_from limited (ds ++ here z l ∷ []) z true x) (limited_alike false ds es s h) (length_alike ds es h) ∙
    ap {B = List Node} (λ (r : List Node). here st (length es) ∷ r) (row_alike x _ _ st true (alike_append ds es _ _ h refl))

-- a branch's node without and with the index where its no path begins
pub row_patched : (ds : List Node) (st : ℕ) (c : Test) (i j l : ℕ) (s : ℕ) (b : Bool) (x : Paths) →
    row_from limited (ds ++ node st (Ask c i j) ∷ []) s b x ≡ row_from limited (ds ++ node st (Ask c i l) ∷ []) s b x
row_patched ds st c i j l s b x = row_alike x _ _ s b (alike_append ds ds (node st (Ask c i j) ∷ []) (node st (Ask c i l) ∷ []) refl refl)

-- to write it in when the yes path is laid is to have had it from the start
pub patched : (ds : List Node) (st : ℕ) (c : Test) (i : ℕ) (s : ℕ) (b : Bool) (x : Paths) →
    set (laid_from limited (ds ++ node st (Ask c i 0) ∷ []) s b x) (length ds) (node st (Ask c i (length (laid_from limited (ds ++ node st (Ask c i 0) ∷ []) s b x)))) ≡
    laid_from limited (ds ++ node st (Ask c i (length ds + 1 + size x)) ∷ []) s b x
patched ds st c i s b x =
    let here = λ (j : ℕ). node st (Ask c i j) in
    let row = λ (j : ℕ). row_from limited (ds ++ here j ∷ []) s b x in
    let is = λ (j : ℕ). laid_row limited x (ds ++ here j ∷ []) s b ∙ push_more ds (here j) (row j) in
    let no-from = length ds + 1 + size x in
    let e : length (laid_from limited (ds ++ here 0 ∷ []) s b x) ≡ no-from = laid_length limited x (ds ++ here 0 ∷ []) s b ∙ ap (λ (z : ℕ). z + size x) (length_push ds (here 0)) in
    ap₂ (λ (r : List Node) (j : ℕ). set r (length ds) (here j)) (is 0) e ∙
    set_at ds (here 0) (row 0) (here no-from) (length ds) refl ∙
    ap (λ (r : List Node). ds ++ here no-from ∷ r) (row_patched ds st c i 0 no-from s b x) ∙
    sym (is no-from)
