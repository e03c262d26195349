-- Reading a source: one token after another, up to the first fault or the end.
use Rattle.std.specs.Prelude.{ℕ, Bool, cond, ◌&&◌, List, [], ◌∷◌, is_some, Some, None, codes, Option}
use Rattle.model.specs.Action as action
use Rattle.token.specs.declared.token.Sign.TheVariants.{Semicolon}
use Rattle.token.specs.Tokens.{Token, tokens}
use Rattle.source.specs.declared.fault.Fault.{Fault}
use Rattle.source.specs.declared.fault.Fault.TheVariants.{Unawaited, Name, Count}
use Rattle.source.specs.Names.{Entry, find}
use Rattle.source.specs.State.{Next, Ends, Header, Later, Never, Choice, Seen, nothing, Phase, Item, InHeader, InRoute, InTable, InField, InBody, HeaderName, FirstName, AfterName, TableName, BodyPhase, DoOpen, Statement, ApplyName, ApplyEnd, Value, Settle, BehindYes, ElseOpen, Goal, Operates}
use Rattle.source.specs.Steps.{Step, go, stop, is_end, says, sign, number_of, number}
use Rattle.source.specs.Declaring.{in_header}
use Rattle.source.specs.Routing.{in_route}
use Rattle.source.specs.Tabling.{in_table}
use Rattle.source.specs.Using.{field_named, in_field}
use Rattle.source.specs.Bodies.{begin, statement, apply_name, settle, behind_yes, do_open, else_open}

-- a number or a field
abbrev pub operand : Goal → Seen → Token → Step
operand g d x = cond (is_some (number_of x.kind)) (number x (λ n. go (InBody (Settle g (action.Number n))) d)) (field_named (Operates g) d x)

abbrev pub in_body : BodyPhase → Seen → Token → Step
in_body DoOpen d x = do_open d x
in_body Statement d x = statement d x
in_body (ApplyName key) d x = apply_name key d x
in_body ApplyEnd d x = sign Semicolon x (go (InBody Statement) d)
in_body (Value g) d x = operand g d x
in_body (Settle g o) d x = settle g o d x
in_body (BehindYes f) d x = behind_yes f d x
in_body (ElseOpen t) d x = else_open t d x

-- the offset of a name that no header has
abbrev pub missing : List Entry → Next → Option ℕ
missing hs Ends = None
missing hs (Header k) = None
missing hs (Later w at) = cond (is_some (find hs w)) None (Some at)
missing hs (Never at) = Some at

abbrev pub or_else : Option ℕ → Option ℕ → Option ℕ
or_else (Some n) o = Some n
or_else None o = o

-- the first choice whose header was never declared
unfoldable pub unnamed : List Entry → List Choice → Option ℕ
unnamed hs [] = None
unnamed hs (c ∷ cs) = or_else (missing hs c.next) (unnamed hs cs)

-- a source that was read to its end: each choice names a header, and there are a `first` and a `do`
abbrev pub complete : Option ℕ → ℕ → Seen → Step
complete (Some o) at d = stop (Name o)
complete None at d = cond (is_some d.routes.first && d.body.begun) (go Item d) (stop (Count at))

abbrev pub item : Seen → Token → Step
item d x =
    cond (is_end x.kind) (complete (unnamed d.names.headers d.routes.choices) x.at d)
    (cond (says (codes "header") x.kind) (go (InHeader HeaderName) d)
    (cond (says (codes "first") x.kind) (cond (is_some d.routes.first) (stop (Unawaited x.at)) (go (InRoute FirstName) d))
    (cond (says (codes "after") x.kind) (go (InRoute AfterName) d)
    (cond (says (codes "table") x.kind) (go (InTable TableName) d)
    (cond (says (codes "do") x.kind) (cond d.body.begun (stop (Unawaited x.at)) (go (InBody DoOpen) (begin d)))
    (stop (Unawaited x.at)))))))

-- what a token does in a phase
abbrev pub step : Phase → Seen → Token → Step
step Item d x = item d x
step (InHeader p) d x = in_header p d x
step (InRoute p) d x = in_route p d x
step (InTable p) d x = in_table p d x
step (InField u p) d x = in_field u p d x
step (InBody p) d x = in_body p d x

-- what reading gives
pub data Outcome : Type 0 where
  taken : Seen → Outcome
  refused : Fault → Outcome

abbrev pub onward : Bool → (Phase → Seen → Outcome) → Step → Outcome
onward ends k (go p d) = cond ends (taken d) (k p d)
onward ends k (stop f) = refused f

-- reading goes on with each token, up to the end
unfoldable pub run : Phase → Seen → List Token → Outcome
run p d [] = taken d
run p d (x ∷ xs) = onward (is_end x.kind) (λ q e. run q e xs) (step p d x)

abbrev pub read_source : List ℕ → Outcome
read_source source = run Item nothing (tokens source)
