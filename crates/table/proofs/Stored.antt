-- Lists of tables' rows: what one change of a row makes of all tables.
use Rattle.std.proofs.Common.{◌≡◌, ℕ, zero, suc, ◌+◌, ◌<◌, ◌≤◌, Bool, true, false, cond, eqb, List, [], ◌∷◌, ◌++◌, map, length, get_or, set, sym, refl, ap, ◌∙◌, subst, ⊎_elim, arith}
use Rattle.std.proofs.lemmas.List.{get_or-map, get_or_past, length-map, map-set, get_or-set_same, get_or-set_other, set-get_or}
use Rattle.std.proofs.lemmas.Bool.{eq-eqb, ne_eqb, cases_eq, cases_lt}
use Rattle.model.specs.Table.{Entry}
use Rattle.table.specs.Stands.{entries_of}
use Rattle.table.specs.Rows.{newest_of, before_of, rows_of}
use Rattle.table.specs.declared.rows.Rows.{Rows}

-- the entries of all tables
abbrev pub all : Bool → List Rows → List (List Entry)
all newest rs = map (λ (r : Rows). entries_of (rows_of newest r)) rs

pub at_table : (v : Bool) (rs : List Rows) (i : ℕ) (r : Rows) → i < length rs → r ≡ get_or rs i r → get_or (all v rs) i [] ≡ entries_of (rows_of v r)
at_table v rs i r h is = get_or-map (λ (r : Rows). entries_of (rows_of v r)) rs i r [] h ∙ ap (λ (x : Rows). entries_of (rows_of v x)) (sym is)

-- a table's rows are replaced
pub replaced : (v : Bool) (rs : List Rows) (i : ℕ) (x : Rows) → i < length rs → (n : ℕ) → get_or (all v (set rs i x)) n [] ≡ cond (eqb n i) (entries_of (rows_of v x)) (get_or (all v rs) n [])
replaced v rs i x h n =
    let F : Rows → List Entry = λ (r : Rows). entries_of (rows_of v r) in
    let inside : i < length (all v rs) = subst (λ (m : ℕ). i < m) (sym (length-map rs F)) h in
    ap (λ (l : List (List Entry)). get_or l n []) (map-set F rs i x)
    ∙ ⊎_elim
    (λ (e : n ≡ i). ap (λ (m : ℕ). get_or (set (all v rs) i (F x)) m []) e ∙ get_or-set_same (all v rs) i (F x) [] inside
    ∙ sym (ap (λ (b : Bool). cond b (F x) (get_or (all v rs) n [])) (eq-eqb n i e)))
    (λ (ne : n ≡ i → ⊥). get_or-set_other (all v rs) i n (F x) [] ne ∙ sym (ap (λ (b : Bool). cond b (F x) (get_or (all v rs) n [])) (ne_eqb n i ne)))
    (cases_eq n i)

-- a change of a row that keeps its entries in a version keeps all tables of that version
pub kept : (v : Bool) (rs : List Rows) (i : ℕ) (x r : Rows) → i < length rs → r ≡ get_or rs i r → rows_of v x ≡ rows_of v r → all v (set rs i x) ≡ all v rs
kept v rs i x r h is e =
    map-set (λ (r : Rows). entries_of (rows_of v r)) rs i x
    ∙ ap (λ (y : List Entry). set (all v rs) i y) (ap entries_of e ∙ sym (at_table v rs i r h is))
    ∙ set-get_or (all v rs) i []

-- the version before is the newest, as far as index k
abbrev pub Same : ℕ → List Rows → Type 0
Same k rs = (j : ℕ) → j < k → get_or (all false rs) j [] ≡ get_or (all true rs) j []

pub same_more : (k : ℕ) (rs : List Rows) (x : Rows) → k < length rs → rows_of false x ≡ rows_of true x → Same k rs → Same (k + 1) (set rs k x)
same_more k rs x h e s j l =
    replaced false rs k x h j
    ∙ ⊎_elim
    (λ (is : j ≡ k).
    ap (λ (b : Bool). cond b (entries_of (rows_of false x)) (get_or (all false rs) j [])) (eq-eqb j k is) ∙ ap entries_of e
    ∙ sym (ap (λ (b : Bool). cond b (entries_of (rows_of true x)) (get_or (all true rs) j [])) (eq-eqb j k is)))
    (λ (ne : j ≡ k → ⊥).
    let below : j < k = omega arith in
    ap (λ (b : Bool). cond b (entries_of (rows_of false x)) (get_or (all false rs) j [])) (ne_eqb j k ne) ∙ s j below
    ∙ sym (ap (λ (b : Bool). cond b (entries_of (rows_of true x)) (get_or (all true rs) j [])) (ne_eqb j k ne)))
    (cases_eq j k)
    ∙ sym (replaced true rs k x h j)

pub same_all : (k : ℕ) (rs : List Rows) → length rs ≤ k → Same k rs → (n : ℕ) → get_or (all false rs) n [] ≡ get_or (all true rs) n []
same_all k rs h s n =
    let F : Rows → List Entry = λ (r : Rows). entries_of (rows_of false r) in
    let G : Rows → List Entry = λ (r : Rows). entries_of (rows_of true r) in
    ⊎_elim
    (λ (l : n < k). s n l)
    (λ (g : k ≤ n).
    get_or_past (all false rs) n [] (subst (λ (m : ℕ). m ≤ n) (sym (length-map rs F)) (omega arith))
    ∙ sym (get_or_past (all true rs) n [] (subst (λ (m : ℕ). m ≤ n) (sym (length-map rs G)) (omega arith))))
    (cases_lt n k)

-- no table has entries
abbrev pub Empty : List Rows → Type 0
Empty rs = (v : Bool) (n : ℕ) → get_or (all v rs) n [] ≡ []

none : {X : Type 0} (n : ℕ) (x : X) → get_or [] n x ≡ x
none n x = refl

pub empty_none : Empty []
empty_none v n = refl

pub empty_push : (rs : List Rows) (x : Rows) → newest_of x ≡ [] → before_of x ≡ [] → Empty rs → Empty (rs ++ (x ∷ []))
empty_push [] x e f h true zero = ap entries_of e
empty_push [] x e f h false zero = ap entries_of f
empty_push [] x e f h v (suc n) = refl
empty_push (r ∷ rs) x e f h v zero = h v zero
empty_push (r ∷ rs) x e f h v (suc n) = empty_push rs x e f (λ v n. h v (suc n)) v n
