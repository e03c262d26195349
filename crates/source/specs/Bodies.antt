-- Statements and blocks.
use Rattle.std.specs.Prelude.{ℕ, ◌-◌, ◌^◌, Bool, true, false, cond, List, [], ◌∷◌, ◌++◌, length, Some, None, codes, Option, bit_and, bit_or, nat_lt, slice_set}
use Rattle.model.specs.Action as action
use Rattle.model.specs.Action.{Operand, Test, Action}
use Rattle.token.specs.declared.token.Sign.TheVariants.{Open, Close, Semicolon}
use Rattle.token.specs.Tokens.{Token}
use Rattle.source.specs.declared.fault.Fault.TheVariants.{Unawaited, Depth, Twice}
use Rattle.source.specs.Names.{find}
use Rattle.source.specs.State.{Doing, Act, Apply, If, Skip, Row, Fork, Detour, Block, Do, Yes, No, Seen, with_body, Goal, Change, Ask, Statement, ApplyName, ApplyEnd, BehindYes, ElseOpen, Target, Tested, Named, Item, InField, InBody}
use Rattle.source.specs.Steps.{Step, go, stop, is_sign, says, sign, word, known}

-- a set of tables as the bits of a number
abbrev pub holds : ℕ → ℕ → Bool
holds tables t = nat_lt 0 (bit_and tables (2 ^ t))

abbrev pub insert : ℕ → ℕ → ℕ
insert tables t = bit_or tables (2 ^ t)

abbrev pub row : ℕ → Doing → Row
row at x = record { offset = at; doing = x }

abbrev pub add_row : Row → Seen → Seen
add_row r d = with_body (record { rows = d.body.rows ++ r ∷ []; blocks = d.body.blocks; applied = d.body.applied; begun = d.body.begun; end = d.body.end }) d

abbrev pub put_row : ℕ → Row → Seen → Seen
put_row i r d = with_body (record { rows = slice_set d.body.rows i r; blocks = d.body.blocks; applied = d.body.applied; begun = d.body.begun; end = d.body.end }) d

abbrev pub set_blocks : List Block → Seen → Seen
set_blocks bs d = with_body (record { rows = d.body.rows; blocks = bs; applied = d.body.applied; begun = d.body.begun; end = d.body.end }) d

abbrev pub set_applied : ℕ → Seen → Seen
set_applied tables d = with_body (record { rows = d.body.rows; blocks = d.body.blocks; applied = tables; begun = d.body.begun; end = d.body.end }) d

-- `do` is read once
abbrev pub begin : Seen → Seen
begin d = with_body (record { rows = d.body.rows; blocks = d.body.blocks; applied = d.body.applied; begun = true; end = d.body.end }) d

abbrev pub finished : ℕ → Seen → Seen
finished at d = with_body (record { rows = d.body.rows; blocks = d.body.blocks; applied = d.body.applied; begun = d.body.begun; end = at }) d

-- a block is opened, if it isn't the ninth inside one another
abbrev pub opened : Block → ℕ → Seen → Step
opened b at d = cond (nat_lt (length d.body.blocks) 8) (go (InBody Statement) (set_blocks (b ∷ d.body.blocks) d)) (stop (Depth at))

abbrev pub innermost : List Block → Option Block
innermost [] = None
innermost (b ∷ bs) = Some b

abbrev pub others : List Block → List Block
others [] = []
others (b ∷ bs) = bs

-- how many statements stand behind the one at an index
abbrev pub behind_row : ℕ → Seen → ℕ
behind_row i d = length d.body.rows - i - 1

-- a block ends: that of `do`; a yes block, whose if now knows how long it is; or a no block, whose skip does
abbrev pub closing : Option Block → ℕ → Seen → Step
closing None at d = stop (Unawaited at)
closing (Some Do) at d = go Item (finished at d)
closing (Some (Yes f)) at d = go (InBody (BehindYes f)) (put_row f.index (row f.offset (If f.test (behind_row f.index d))) d)
closing (Some (No t)) at d =
    go (InBody Statement) (set_applied (bit_or t.applied d.body.applied) (put_row t.index (row t.offset (Skip (behind_row t.index d))) d))

abbrev pub closed : ℕ → Seen → Step
closed at d = closing (innermost d.body.blocks) at (set_blocks (others d.body.blocks) d)

abbrev pub statement : Seen → Token → Step
statement d x =
    cond (is_sign Close x.kind) (closed x.at d)
    (cond (says (codes "set") x.kind) (go (InField (Target false x.at) Named) d)
    (cond (says (codes "add") x.kind) (go (InField (Target true x.at) Named) d)
    (cond (says (codes "apply") x.kind) (go (InBody (ApplyName x.at)) d)
    (cond (says (codes "if") x.kind) (go (InField (Tested x.at) Named) d)
    (stop (Unawaited x.at))))))

-- a table is applied at most once on a path
abbrev pub applying : ℕ → ℕ → ℕ → Seen → Step
applying key at t d = cond (holds d.body.applied t) (stop (Twice at))
    (go (InBody ApplyEnd) (set_applied (insert d.body.applied t) (add_row (row key (Apply t)) d)))

abbrev pub apply_name : ℕ → Seen → Token → Step
apply_name key d x = word x (λ w. known x.at (find d.names.tables w) (λ t. applying key x.at t d))

abbrev pub change : Bool → ℕ → Operand → Action
change true f o = action.Add f o
change false f o = action.Set f o

abbrev pub ask : Bool → ℕ → Operand → Test
ask true f o = action.Less f o
ask false f o = action.Equals f o

-- an operand is there: the statement is complete, or the yes block begins
abbrev pub settle : Goal → Operand → Seen → Token → Step
settle (Change adds f at) o d x = sign Semicolon x (go (InBody Statement) (add_row (row at (Act (change adds f o))) d))
settle (Ask less f at) o d x =
    sign Open x (opened (Yes (record { index = length d.body.rows; offset = at; test = ask less f o; before = d.body.applied })) x.at (add_row (row at (If (ask less f o) 0)) d))

-- behind a yes block: `else`, or what follows the if. The skip counts for the yes block, so the no block begins one further
abbrev pub behind_yes : Fork → Seen → Token → Step
behind_yes f d x = cond (says (codes "else") x.kind)
    (go (InBody (ElseOpen (record { index = length d.body.rows; offset = x.at; applied = d.body.applied })))
    (set_applied f.before (add_row (row x.at (Skip 0)) (put_row f.index (row f.offset (If f.test (length d.body.rows - f.index))) d))))
    (statement d x)

abbrev pub do_open : Seen → Token → Step
do_open d x = sign Open x (opened Do x.at d)

abbrev pub else_open : Detour → Seen → Token → Step
else_open t d x = sign Open x (opened (No t) x.at d)
