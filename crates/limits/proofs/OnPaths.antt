-- Where the rows have marks, no table is applied twice on a path.
use Rattle.std.proofs.Common.{◌≡◌, ℕ, zero, suc, ◌+◌, ◌<◌, true, List, [], ◌∷◌, map, length, get_or, subst, inl, inr, arith}
use Rattle.std.specs.List.{AllByRecursion}
use Rattle.std.proofs.ByRecursion.{All-weaker}
use Rattle.std.proofs.lemmas.Bool.{both_ways}
use Rattle.model.specs.Paths.{Paths}
use Rattle.model.specs.Statements.{past, paths_of_kind, paths_from_each}
use Rattle.source.specs.State.{Doing, Act, Apply, If, Skip, Row, Block}
use Rattle.source.specs.Bodies.{holds}
use Rattle.limits.specs.Once.{kind_of, statement_of, paths_through, Other, Once}
use Rattle.limits.proofs.Sets.{Sub}
use Rattle.limits.proofs.Tracing.{blank, Marked, Among, Trace}

-- a table is in a set
abbrev Holds : ℕ → ℕ → Type 0
Holds set t = holds set t ≡ true

passed_on : (a b : ℕ) (seen : List ℕ) → Sub a b → AllByRecursion (Holds a) seen → AllByRecursion (Holds b) seen
passed_on a b seen s h = All-weaker (Holds a) (Holds b) s.all seen h

-- from a row with these paths behind it
row_once : (end : ℕ) (mark : ℕ → ℕ) (last i : ℕ) (seen : List ℕ) (o : ℕ) (x : Doing) (following : List Paths) → Marked mark last i x → AllByRecursion (Holds (mark i)) seen →
    ((j : ℕ) (before : List ℕ) → AllByRecursion (Holds (mark (i + 1 + j))) before → Once before (past end following j)) → Once seen (paths_of_kind end o (kind_of x) following)
unfolding Once
row_once end mark last i seen o (Act a) following m h more = more 0 seen (subst (λ (k : ℕ). AllByRecursion (Holds (mark k)) seen) (omega arith) (passed_on (mark i) (mark (i + 1)) seen m h))
row_once end mark last i seen o (Apply t) following m h more = (
  All-weaker (Holds (mark i)) (Other t) (λ u k e. both_ways (holds (mark i) t) m.0 (subst (λ (v : ℕ). holds (mark i) v ≡ true) e k)) seen h,
  more 0 (t ∷ seen) (subst (λ (k : ℕ). AllByRecursion (Holds (mark k)) (t ∷ seen)) (omega arith) (m.1.1, passed_on (mark i) (mark (i + 1)) seen m.1.0 h)),
)
row_once end mark last i seen o (If c past-it) following m h more = (
  more 0 seen (subst (λ (k : ℕ). AllByRecursion (Holds (mark k)) seen) (omega arith) (passed_on (mark i) (mark (i + 1)) seen m.0 h)),
  more past-it seen (passed_on (mark i) (mark (i + 1 + past-it)) seen m.1.1 h),
)
row_once end mark last i seen o (Skip past-it) following m h more = more past-it seen (passed_on (mark i) (mark (i + 1 + past-it)) seen m.1 h)

-- from any of the rows that begin at an index
rows_once : (end : ℕ) (mark : ℕ → ℕ) (last i : ℕ) (rows : List Row) → ((k : ℕ) → k < length rows → Marked mark last (i + k) (get_or rows k blank).doing) →
    (j : ℕ) (seen : List ℕ) → AllByRecursion (Holds (mark (i + j))) seen → Once seen (past end (paths_from_each end (map statement_of rows)) j)
unfolding Once paths_from_each
rows_once end mark last i [] m j seen h = tt
rows_once end mark last i (r ∷ rs) m zero seen h =
    let at : i + 0 ≡ i = omega arith in
    row_once end mark last i seen r.offset r.doing (paths_from_each end (map statement_of rs)) (subst (λ (k : ℕ). Marked mark last k r.doing) at (m 0 (omega arith))) (subst (λ (k : ℕ). AllByRecursion (Holds (mark k)) seen) at h)
    (rows_once end mark last (i + 1) rs (λ k b. subst (λ (n : ℕ). Marked mark last n (get_or rs k blank).doing) (omega arith) (m (suc k) (omega arith))))
rows_once end mark last i (r ∷ rs) m (suc j) seen h =
    rows_once end mark last (i + 1) rs (λ k b. subst (λ (n : ℕ). Marked mark last n (get_or rs k blank).doing) (omega arith) (m (suc k) (omega arith))) j seen
    (subst (λ (n : ℕ). AllByRecursion (Holds (mark n)) seen) (omega arith) h)

none : (i : ℕ) {A : Type 0} → Among [] i → A
unfolding Among
none i a = absurd a

pub once : (end : ℕ) (rows : List Row) (applied : ℕ) (blocks : List Block) → Trace [] rows applied blocks → Once [] (paths_through end rows)
once end rows applied blocks t =
    rows_once end t.mark (length rows) 0 rows
    (λ k b. elim (t.each.at k b) [ inl a ↦ none k a | inr m ↦ subst (λ (n : ℕ). Marked t.mark (length rows) n (get_or rows k blank).doing) (omega arith) m ]) 0 [] tt
