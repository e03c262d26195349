-- Blocks written as a row stand for the paths of the blocks.
use Rattle.std.proofs.Common.{◌≡◌, ℕ, suc, ◌+◌, List, [], ◌∷◌, ◌++◌, length, sym, refl, ap, ◌∙◌, ap₂, arith}
use Rattle.std.proofs.lemmas.List.{append_assoc, append-nil}
use Rattle.model.specs.Paths.{Apply, Branch, Act}
use Rattle.model.specs.Blocks.{Block, Done, Table, Single, If, paths_of}
use Rattle.model.specs.Statements.{Statement, statement, Skips, paths_from_each, paths_at, row_of}
use Rattle.model.specs.Promises.{RowsUnfold}

-- past a first part stands the second
past_first : (end : ℕ) (xs ys : List Statement) (n : ℕ) → paths_at end (xs ++ ys) (length xs + n) ≡ paths_at end ys n
unfolding paths_from_each
past_first end [] ys n = let e : 0 + n ≡ n = omega arith in ap (paths_at end ys) e
past_first end (x ∷ xs) ys n =
    let e : suc (length xs) + n ≡ suc (length xs + n) = omega arith in
    ap (paths_at end (x ∷ (xs ++ ys))) e ∙ past_first end xs ys n

-- a row and what is behind it stand for the block's paths with those behind it
row_behind : (end : ℕ) (b : Block) (behind : List Statement) → paths_at end (row_of b ++ behind) 0 ≡ paths_of b (paths_at end behind 0)
unfolding paths_from_each row_of paths_of
row_behind end Done behind = refl
row_behind end (Table o n rest) behind = ap (Apply o n) (row_behind end rest behind)
row_behind end (Single o a rest) behind = ap (Act o a) (row_behind end rest behind)
row_behind end (If o c one two rest) behind =
    let skip = statement o (Skips (length (row_of two))) in
    let after = row_of rest ++ behind in
    let tail = skip ∷ (row_of two ++ after) in
    let assoc : (row_of one ++ (skip ∷ (row_of two ++ row_of rest))) ++ behind ≡ row_of one ++ tail =
    append_assoc (row_of one) (skip ∷ (row_of two ++ row_of rest)) behind ∙ ap (λ (z : List Statement). row_of one ++ skip ∷ z) (append_assoc (row_of two) (row_of rest) behind) in
    let x = paths_of rest (paths_at end behind 0) in
    let e : length (row_of two) ≡ length (row_of two) + 0 = omega arith in
    let skipped : paths_at end tail 0 ≡ x = ap (paths_at end (row_of two ++ after)) e ∙ past_first end (row_of two) after 0 ∙ row_behind end rest behind in
    ap (λ (z : List Statement). Branch o c (paths_at end z 0) (paths_at end z (length (row_of one) + 1))) assoc ∙
    ap₂ (Branch o c)
    (row_behind end one tail ∙ ap (paths_of one) skipped)
    (past_first end (row_of one) tail 1 ∙ row_behind end two after ∙ ap (paths_of two) (row_behind end rest behind))

pub rows_unfold : RowsUnfold
unfolding paths_from_each
rows_unfold end b = ap (λ (z : List Statement). paths_at end z 0) (sym (append-nil (row_of b))) ∙ row_behind end b []
