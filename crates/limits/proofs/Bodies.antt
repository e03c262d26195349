-- Rows and blocks: one more, one written anew, and what holds of them then.
use Rattle.std.proofs.Common.{◌≡◌, ℕ, zero, suc, ◌+◌, ◌<◌, ◌≤◌, Bool, true, false, List, [], ◌∷◌, ◌++◌, length, set, Some, None, Option, sym, refl, subst, arith}
use Rattle.std.specs.List.{AllByRecursion}
use Rattle.std.proofs.lemmas.List.{length_push, length-set}
use Rattle.std.proofs.ByRecursion.{All-weaker}
use Rattle.model.specs.Action.{Operand}
use Rattle.source.specs.State.{Fork, Detour, Block, Do, Yes, No, Doing, Row, Seen}
use Rattle.source.specs.Bodies.{add_row, put_row, set_blocks, set_applied, begin, finished, innermost, others, change, ask}
use Rattle.limits.specs.Doing.{OperandLimits, TestLimits, ActionLimits, DoingLimits, RowLimits}
use Rattle.limits.proofs.Sound.{BlockSound, State, Open}
use Rattle.limits.proofs.Tracing.{pending, Trace}
use Rattle.limits.proofs.Growing.{rows_more, block_more}
use Rattle.limits.proofs.Changing.{state_body}

rows_push : (fs ts c i : ℕ) (rs : List Row) (r : Row) → RowLimits fs ts c i rs → DoingLimits fs ts c (i + length rs) r.doing → RowLimits fs ts c i (rs ++ r ∷ [])
unfolding RowLimits
rows_push fs ts c i [] r h k = (subst (λ (j : ℕ). DoingLimits fs ts c j r.doing) (omega arith) k, tt)
rows_push fs ts c i (x ∷ xs) r h k = (h.0, rows_push fs ts c (i + 1) xs r h.1 (subst (λ (j : ℕ). DoingLimits fs ts c j r.doing) (omega arith) k))

rows_put : (fs ts c i j : ℕ) (rs : List Row) (r : Row) → RowLimits fs ts c i rs → DoingLimits fs ts c (i + j) r.doing → RowLimits fs ts c i (set rs j r)
unfolding RowLimits
rows_put fs ts c i j [] r h k = tt
rows_put fs ts c i zero (x ∷ xs) r h k = (subst (λ (j : ℕ). DoingLimits fs ts c j r.doing) (omega arith) k, h.1)
rows_put fs ts c i (suc j) (x ∷ xs) r h k = (h.0, rows_put fs ts c (i + 1) j xs r h.1 (subst (λ (j : ℕ). DoingLimits fs ts c j r.doing) (omega arith) k))

from_zero : (fs ts c i : ℕ) (x : Doing) → DoingLimits fs ts c i x → DoingLimits fs ts c (0 + i) x
from_zero fs ts c i x h = subst (λ (j : ℕ). DoingLimits fs ts c j x) (omega arith) h

-- a row of one more
rows_grown : (fs ts c n : ℕ) (rs : List Row) (r : Row) → length rs ≡ c → n ≡ c + 1 → RowLimits fs ts n 0 rs → DoingLimits fs ts n c r.doing → RowLimits fs ts (length (rs ++ r ∷ [])) 0 (rs ++ r ∷ [])
rows_grown fs ts c n rs r e q h k =
    let l : n ≡ length (rs ++ r ∷ []) = omega (arith, length_push rs r) in
    subst (λ (m : ℕ). RowLimits fs ts m 0 (rs ++ r ∷ [])) l (rows_push fs ts n 0 rs r h (subst (λ (j : ℕ). DoingLimits fs ts n j r.doing) (omega arith) k))

blocks_grown : (fs b c : ℕ) (bs : List Block) → b ≤ c → AllByRecursion (BlockSound fs b) bs → AllByRecursion (BlockSound fs c) bs
blocks_grown fs b c bs l h = All-weaker (BlockSound fs b) (BlockSound fs c) (block_more fs fs b c (omega arith) l) bs h

pub row_state : (r : Row) (d : Seen) → State d → DoingLimits (length d.names.fields + 1) (length d.names.tables) (length d.body.rows + 1) (length d.body.rows) r.doing → State (add_row r d)
row_state r d s k = state_body _ d (record {
  rows = rows_grown _ _ (length d.body.rows) (length d.body.rows + 1) d.body.rows r refl refl
      (rows_more _ _ _ _ (length d.body.rows) (length d.body.rows + 1) 0 (omega arith) (omega arith) (omega arith) d.body.rows s.body.rows) k;
  blocks = blocks_grown _ (length d.body.rows) (length (d.body.rows ++ r ∷ [])) d.body.blocks (omega (arith, length_push d.body.rows r)) s.body.blocks;
}) s

pub put_state : (i : ℕ) (r : Row) (d : Seen) → State d → DoingLimits (length d.names.fields + 1) (length d.names.tables) (length d.body.rows) i r.doing → State (put_row i r d)
put_state i r d s k =
    let l : length d.body.rows ≡ length (set d.body.rows i r) = sym (length-set d.body.rows i r) in
    state_body _ d (record {
      rows = subst (λ (n : ℕ). RowLimits (length d.names.fields + 1) (length d.names.tables) n 0 (set d.body.rows i r)) l (rows_put _ _ _ 0 i d.body.rows r s.body.rows (from_zero _ _ _ i r.doing k));
      blocks = blocks_grown _ (length d.body.rows) (length (set d.body.rows i r)) d.body.blocks (omega arith) s.body.blocks;
    }) s

-- an if is written anew, and a row is added
pub else_state : (i : ℕ) (r t : Row) (d : Seen) → State d → DoingLimits (length d.names.fields + 1) (length d.names.tables) (length d.body.rows + 1) i r.doing →
    DoingLimits (length d.names.fields + 1) (length d.names.tables) (length d.body.rows + 1) (length d.body.rows) t.doing → State (add_row t (put_row i r d))
else_state i r t d s k j =
    let l : length (set d.body.rows i r) ≡ length d.body.rows = length-set d.body.rows i r in
    state_body _ d (record {
      rows = rows_grown _ _ (length d.body.rows) (length d.body.rows + 1) (set d.body.rows i r) t l refl
          (rows_put _ _ (length d.body.rows + 1) 0 i d.body.rows r (rows_more _ _ _ _ (length d.body.rows) (length d.body.rows + 1) 0 (omega arith) (omega arith) (omega arith) d.body.rows s.body.rows) (from_zero _ _ _ i r.doing k)) j;
      blocks = blocks_grown _ (length d.body.rows) (length (set d.body.rows i r ++ t ∷ [])) d.body.blocks (omega (arith, length_push (set d.body.rows i r) t)) s.body.blocks;
    }) s

pub blocks_state : (bs : List Block) (d : Seen) → State d → AllByRecursion (BlockSound (length d.names.fields + 1) (length d.body.rows)) bs → State (set_blocks bs d)
blocks_state bs d s k = state_body _ d (record { rows = s.body.rows; blocks = k }) s

pub applied_state : (n : ℕ) (d : Seen) → State d → State (set_applied n d)
applied_state n d s = state_body _ d (record { rows = s.body.rows; blocks = s.body.blocks }) s

pub begun_state : (d : Seen) → State d → State (begin d)
begun_state d s = state_body _ d (record { rows = s.body.rows; blocks = s.body.blocks }) s

pub finished_state : (at : ℕ) (d : Seen) → State d → State (finished at d)
finished_state at d s = state_body _ d (record { rows = s.body.rows; blocks = s.body.blocks }) s

pub change_limits : (fs : ℕ) (adds : Bool) (f : ℕ) (o : Operand) → f < fs → OperandLimits fs o → ActionLimits fs (change adds f o)
change_limits fs true f o b h = (b, h)
change_limits fs false f o b h = (b, h)

pub ask_limits : (fs : ℕ) (less : Bool) (f : ℕ) (o : Operand) → f < fs → OperandLimits fs o → TestLimits fs (ask less f o)
ask_limits fs true f o b h = (b, h)
ask_limits fs false f o b h = (b, h)

-- indices stay within the rows
pub last_there : (rs : List Row) (r : Row) → length rs < length (rs ++ r ∷ [])
last_there rs r = omega (arith, length_push rs r)

pub still_there : (i j : ℕ) (rs : List Row) (r : Row) → i < length rs → i < length (set rs j r)
still_there i j rs r h = omega (arith, length-set rs j r)

pub behind_there : (j : ℕ) (rs : List Row) (r t : Row) → length rs < length (set rs j r ++ t ∷ [])
behind_there j rs r t = omega (arith, length-set rs j r, length_push (set rs j r) t)

pub opened_do : (bs : List Block) → bs ≡ [] → Open (Do ∷ bs)
unfolding Open
opened_do bs e = e

pub opened_yes : (f : Fork) (bs : List Block) → Open bs → Open (Yes f ∷ bs)
unfolding Open
opened_yes f bs o = o

pub opened_no : (t : Detour) (bs : List Block) → Open bs → Open (No t ∷ bs)
unfolding Open
opened_no t bs o = o

-- what is left when a block ends
abbrev pub Left : Option Block → List Block → Type 0
Left None bs = Unit {0}
Left (Some Do) bs = bs ≡ []
Left (Some (Yes f)) bs = Open bs
Left (Some (No t)) bs = Open bs

pub left_open : (bs : List Block) → Open bs → Left (innermost bs) (others bs)
unfolding Open
left_open [] o = tt
left_open (Do ∷ bs) o = o
left_open (Yes f ∷ bs) o = o
left_open (No t ∷ bs) o = o

-- the marks up to where a block ends
abbrev pub LeftTrace : Option Block → List Row → ℕ → List Block → Type 0
LeftTrace None rows a bs = Unit {0}
LeftTrace (Some b) rows a bs = Trace (pending (b ∷ bs)) rows a (b ∷ bs)

pub left_trace : (rows : List Row) (a : ℕ) (bs : List Block) → Trace (pending bs) rows a bs → LeftTrace (innermost bs) rows a (others bs)
left_trace rows a [] t = tt
left_trace rows a (b ∷ bs) t = t

-- the block that ends
abbrev pub Ending : (fields count : ℕ) → Option Block → Type 0
Ending fields count None = Unit {0}
Ending fields count (Some b) = BlockSound fields count b

pub inner_sound : (fs c : ℕ) (bs : List Block) → AllByRecursion (BlockSound fs c) bs → Ending fs c (innermost bs)
inner_sound fs c [] h = tt
inner_sound fs c (b ∷ bs) h = h.0

pub others_sound : (fs c : ℕ) (bs : List Block) → AllByRecursion (BlockSound fs c) bs → AllByRecursion (BlockSound fs c) (others bs)
others_sound fs c [] h = tt
others_sound fs c (b ∷ bs) h = h.1
