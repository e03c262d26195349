-- Where the fault of one token stands.
use Rattle.std.proofs.Common.{◌≡◌, ℕ, ◌^◌, Bool, true, false, cond, ◌&&◌, ltb, List, [], ◌∷◌, ◌++◌, length, is_some, Some, None, codes, Option, refl}
use Rattle.token.specs.declared.token.Sign.TheVariants.{Close, Semicolon, Dot}
use Rattle.token.specs.Tokens.{Token}
use Rattle.source.specs.declared.fault.Fault.{Fault}
use Rattle.source.specs.declared.fault.Fault.TheVariants.{Name, Count}
use Rattle.source.specs.State
use Rattle.source.specs.State.{Next, Ends, Later, Never, Choice, Seen, Phase, Item, InHeader, InRoute, InTable, InField, InBody, HeaderPhase, HeaderName, HeaderOpen, FieldName, FieldWidth, FieldEnd, RoutePhase, FirstName, FirstEnd, AfterName, AfterBy, ChoiceValue, ChoiceColon, ChoiceNext, ChoiceEnd, TablePhase, TableName, TableOpen, LookWord, SetsWord, ListStart, LinesWord, Lines, LinesEnd, TableClose, FieldPhase, Named, Behind, Member, Past, BodyPhase, DoOpen, Statement, ApplyName, ApplyEnd, Value, Settle, BehindYes, ElseOpen, Purpose, By, Listed, Target, Tested, Operates, Goal, Change, Ask, Looks, Sets, Block, Do, Yes, No}
use Rattle.model.specs.Action as action
use Rattle.model.specs.Action.{Operand}
use Rattle.source.specs.Names.{find, find_in}
use Rattle.source.specs.Steps.{Step, go, stop, is_end, is_sign, says, word_of, number_of, or_unawaited, or_range, or_count, known, word, number, short, fresh, below, room}
use Rattle.source.specs.Declaring.{in_header}
use Rattle.source.specs.Routing.{chosen, in_route}
use Rattle.source.specs.Tabling.{in_table}
use Rattle.source.specs.Bodies.{closing, settle, statement}
use Rattle.source.specs.Using.{past, field_named, has_room_for, behind_name, in_field}
use Rattle.source.specs.Reading.{unnamed, complete, in_body, step}
use Rattle.grammar.specs.Decided.{offset}

-- the offset that a phase holds of the token before
abbrev pub Holds : Phase → Option ℕ → Type 0
Holds Item o = Unit {0}
Holds (InHeader p) o = Unit {0}
Holds (InRoute p) o = Unit {0}
Holds (InTable p) o = Unit {0}
Holds (InField u Named) o = Unit {0}
Holds (InField u (Behind h f at)) o = o ≡ Some at
Holds (InField u (Member h)) o = Unit {0}
Holds (InField u (Past f)) o = Unit {0}
Holds (InBody p) o = Unit {0}

-- a choice whose header was never declared is met at the end
pub record Missed (p : Phase) (d : Seen) (x : Token) (f : Fault) : Type 0 where
  pub phase : p ≡ Item
  pub ends : is_end x.kind ≡ true
  pub at : ℕ
  pub choice : unnamed d.names.headers d.routes.choices ≡ Some at
  pub fault : f ≡ Name at

pub data Place (p : Phase) (d : Seen) (o : Option ℕ) (x : Token) (f : Fault) : Type 0 where
  here : offset f ≡ Some x.at → Place p d o x f
  before : (i : ℕ) → o ≡ Some i → offset f ≡ Some i → Place p d o x f
  missed : Missed p d x f → Place p d o x f

-- the offset in a choice is that of a token
abbrev pub Own : Token → Next → Type 0
Own x Ends = Unit {0}
Own x (State.Header k) = Unit {0}
Own x (Later w at) = x.at ≡ at
Own x (Never at) = x.at ≡ at

-- what a token does to the choices: nothing, or it adds its own
pub data Added (d : Seen) (x : Token) (e : Seen) : Type 0 where
  none_added : e.routes.choices ≡ d.routes.choices → Added d x e
  one_added : (c : Choice) → e.routes.choices ≡ d.routes.choices ++ c ∷ [] → Own x c.next → Added d x e

-- what a token leaves: a phase that holds the token's offset, or a fault that has its place
pub data At (p : Phase) (d : Seen) (o : Option ℕ) (x : Token) : Step → Type 0 where
  goes : {q : Phase} {e : Seen} → Holds q (Some x.at) → Added d x e → At p d o x (go q e)
  stops : {f : Fault} → Place p d o x f → At p d o x (stop f)

module _ (p : Phase) (d : Seen) (o : Option ℕ) (x : Token) where
  either : (b : Bool) {s t : Step} → At p d o x s → At p d o x t → At p d o x (cond b s t)
  either true m n = m
  either false m n = n

  unawaited : {X : Type 0} (y : Option X) (k : X → Step) → ((z : X) → At p d o x (k z)) → At p d o x (or_unawaited x.at y k)
  unawaited (Some z) k m = m z
  unawaited None k m = stops (here refl)

  ranged : {X : Type 0} (y : Option X) (k : X → Step) → ((z : X) → At p d o x (k z)) → At p d o x (or_range x.at y k)
  ranged (Some z) k m = m z
  ranged None k m = stops (here refl)

  counted : {X : Type 0} (y : Option X) (k : X → Step) → ((z : X) → At p d o x (k z)) → At p d o x (or_count x.at y k)
  counted (Some z) k m = m z
  counted None k m = stops (here refl)

  named : {X : Type 0} (y : Option X) (k : X → Step) → ((z : X) → At p d o x (k z)) → At p d o x (known x.at y k)
  named (Some z) k m = m z
  named None k m = stops (here refl)

  at_stop : (f : Fault) → offset f ≡ Some x.at → At p d o x (stop f)
  at_stop f e = stops (here e)

  at_go : (q : Phase) (e : Seen) → Holds q (Some x.at) → e.routes.choices ≡ d.routes.choices → At p d o x (go q e)
  at_go q e h k = goes h (none_added k)

  own_later : (b : Bool) (w : List ℕ) → Own x (cond b (Never x.at) (Later w x.at))
  own_later true w = refl
  own_later false w = refl

  -- statements and blocks
  at_closing : (b : Option Block) (e : Seen) → e.routes.choices ≡ d.routes.choices → At p d o x (closing b x.at e)
  at_closing None e k = at_stop _ refl
  at_closing (Some Do) e k = goes tt (none_added k)
  at_closing (Some (Yes f)) e k = goes tt (none_added k)
  at_closing (Some (No t)) e k = goes tt (none_added k)

  at_statement : At p d o x (statement d x)
  at_statement = search (either, at_closing, at_go, at_stop) depth 12

  at_settle : (g : Goal) (v : Operand) → At p d o x (settle g v d x)
  at_settle (Change adds f at) v = search (either, at_go, at_stop) depth 12
  at_settle (Ask less f at) v = search (either, at_go, at_stop) depth 12

  at_past : (u : Purpose) (f : ℕ) → At p d o x (past u f d x)
  at_past (By h) f = search (either, at_go, at_stop) depth 12
  at_past (Listed Looks) f = search (either, at_go, at_stop) depth 12
  at_past (Listed Sets) f = search (either, at_go, at_stop) depth 12
  at_past (Target adds at) f = search (either, at_go, at_stop) depth 12
  at_past (Tested at) f = search (either, at_go, at_stop) depth 12
  at_past (Operates g) f = at_settle g (action.Field f)

  at_named : (u : Purpose) → At p d o x (field_named u d x)
  at_named u = unawaited (word_of x.kind) _ (λ w. goes refl (none_added refl))

  at_chosen : (h n v : ℕ) (w : List ℕ) (k : Option ℕ) → At p d o x (chosen h n v w x.at k d)
  at_chosen h n v w (Some k) = either (ltb h k) (goes tt (one_added _ refl tt)) (at_stop _ refl)
  at_chosen h n v w None = goes tt (one_added _ refl (own_later (ltb 24 (length w)) w))

  at_number : (k : ℕ → Step) → ((n : ℕ) → At p d o x (k n)) → At p d o x (number x k)
  at_number k m = unawaited (number_of x.kind) _ (λ n. either (ltb n (2 ^ 32)) (m n) (at_stop _ refl))

  at_fresh : (b : Bool) (w : List ℕ) (k : List ℕ → Step) → ((v : List ℕ) → At p d o x (k v)) → At p d o x (fresh b x.at w k)
  at_fresh b w k m = either b (at_stop _ refl) (ranged (short w) k m)

  at_declared : (b : List ℕ → Bool) (n limit : ℕ) (k : List ℕ → ℕ → Step) → ((w : List ℕ) (i : ℕ) → At p d o x (k w i)) →
      At p d o x (word x (λ w. fresh (b w) x.at w (λ v. room x.at n limit (k v))))
  at_declared b n limit k m = unawaited (word_of x.kind) _ (λ w. at_fresh (b w) w _ (λ v. counted (below n limit) (k v) (m v)))

  at_header : (q : HeaderPhase) → At p d o x (in_header q d x)
  at_header HeaderName = at_declared _ _ _ _ (λ w i. goes tt (none_added refl))
  at_header (HeaderOpen h) = search (either, at_go, at_stop) depth 12
  at_header (FieldName h bits) = either (is_sign Close x.kind) (search (either, at_go, at_stop) depth 12) (at_declared _ _ _ _ (λ w i. goes tt (none_added refl)))
  at_header (FieldWidth h f bits) = at_number _ (λ n. search (either, at_go, at_stop) depth 12)
  at_header (FieldEnd h bits) = search (either, at_go, at_stop) depth 12

  at_route : (q : RoutePhase) → At p d o x (in_route q d x)
  at_route FirstName = unawaited (word_of x.kind) _ (λ w. named (find d.names.headers w) _ (λ h. goes tt (none_added refl)))
  at_route FirstEnd = search (either, at_go, at_stop) depth 12
  at_route AfterName = unawaited (word_of x.kind) _ (λ w. named (find d.names.headers w) _ (λ h. search (either, at_go, at_stop) depth 12))
  at_route (AfterBy h) = search (either, at_go, at_stop) depth 12
  at_route (ChoiceValue h n) = either (is_sign Close x.kind) (goes tt (none_added refl)) (at_number _ (λ v. counted (below n 8) _ (λ k. goes tt (none_added refl))))
  at_route (ChoiceColon h n v) = search (either, at_go, at_stop) depth 12
  at_route (ChoiceNext h n v) = either (says (codes "end") x.kind) (goes tt (one_added _ refl tt)) (unawaited (word_of x.kind) _ (λ w. at_chosen h n v w _))
  at_route (ChoiceEnd h n) = search (either, at_go, at_stop) depth 12

  at_table : (q : TablePhase) → At p d o x (in_table q d x)
  at_table TableName = at_declared _ _ _ _ (λ w i. goes tt (none_added refl))
  at_table TableOpen = search (either, at_go, at_stop) depth 12
  at_table LookWord = search (either, at_go, at_stop) depth 12
  at_table SetsWord = search (either, at_go, at_stop) depth 12
  at_table (ListStart l) = either (is_sign Semicolon x.kind) (goes tt (none_added refl)) (at_named (Listed l))
  at_table LinesWord = search (either, at_go, at_stop) depth 12
  at_table Lines = at_number _ (λ n. search (either, at_go, at_stop) depth 12)
  at_table (LinesEnd n) = search (either, at_go, at_stop) depth 12
  at_table (TableClose n) = search (either, at_go, at_stop) depth 12

  at_body : (q : BodyPhase) → At p d o x (in_body q d x)
  at_body DoOpen = search (either, at_go, at_stop) depth 12
  at_body Statement = at_statement
  at_body (ApplyName key) =
      unawaited (word_of x.kind) _ (λ w. named (find d.names.tables w) _ (λ t. search (either, at_go, at_stop) depth 12))
  at_body ApplyEnd = search (either, at_go, at_stop) depth 12
  at_body (Value g) = either (is_some (number_of x.kind)) (at_number _ (λ n. goes tt (none_added refl))) (at_named (Operates g))
  at_body (Settle g v) = at_settle g v
  at_body (BehindYes f) = either (says (codes "else") x.kind) (goes tt (none_added refl)) (at_statement)
  at_body (ElseOpen t) = search (either, at_go, at_stop) depth 12

-- a name that is known only by the token behind it
held : (p : Phase) (d : Seen) (i : ℕ) (x : Token) {X : Type 0} (y : Option X) (k : X → Step) → ((z : X) → At p d (Some i) x (k z)) → At p d (Some i) x (known i y k)
held p d i x (Some z) k m = m z
held p d i x None k m = stops (before i refl refl)

crowded : (p : Phase) (d : Seen) (i : ℕ) (x : Token) (b : Bool) (k : Step) → At p d (Some i) x k → At p d (Some i) x (cond b k (stop (Count i)))
crowded p d i x true k m = m
crowded p d i x false k m = stops (before i refl refl)

at_behind : (p : Phase) (d : Seen) (o : Option ℕ) (i : ℕ) (x : Token) (u : Purpose) (h f : Option ℕ) → o ≡ Some i → At p d o x (behind_name u h f i d x)
at_behind p d o i x u h f q = rw q (either p d (Some i) x (is_sign Dot x.kind)
    (held p d i x h _ (λ k. crowded p d i x (has_room_for u d) _ (goes tt (none_added refl))))
    (held p d i x f _ (λ g. crowded p d i x (has_room_for u d) _ (at_past p d (Some i) x u g))))

at_field : (d : Seen) (o : Option ℕ) (x : Token) (u : Purpose) (q : FieldPhase) → Holds (InField u q) o → At (InField u q) d o x (in_field u q d x)
at_field d o x u Named h = at_named _ d o x u
at_field d o x u (Behind k f at) h = at_behind _ d o at x u k f h
at_field d o x u (Member k) h =
    unawaited _ d o x (word_of x.kind) _ (λ w. named _ d o x (find_in d.names.fields k w) _ (λ f. goes tt (none_added refl)))
at_field d o x u (Past f) h = at_past _ d o x u f

at_complete : (d : Seen) (o : Option ℕ) (x : Token) (m : Option ℕ) → is_end x.kind ≡ true → unnamed d.names.headers d.routes.choices ≡ m →
    At Item d o x (complete m x.at d)
at_complete d o x (Some at) e m = stops (missed (record { phase = refl; ends = e; at = at; choice = m; fault = refl }))
at_complete d o x None e m =
    either Item d o x (is_some d.routes.first && d.body.begun) (goes tt (none_added refl)) (at_stop Item d o x _ refl)

at_item : (d : Seen) (o : Option ℕ) (x : Token) (b : Bool) (s : Step) → is_end x.kind ≡ b → At Item d o x s →
    At Item d o x (cond b (complete (unnamed d.names.headers d.routes.choices) x.at d) s)
at_item d o x true s e m = at_complete d o x _ e refl
at_item d o x false s e m = m

pub at_step : (p : Phase) (d : Seen) (o : Option ℕ) (x : Token) → Holds p o → At p d o x (step p d x)
at_step Item d o x h = at_item d o x (is_end x.kind) _ refl (search (either Item d o x, at_go Item d o x, at_stop Item d o x) depth 14)
at_step (InHeader q) d o x h = at_header _ d o x q
at_step (InRoute q) d o x h = at_route _ d o x q
at_step (InTable q) d o x h = at_table _ d o x q
at_step (InField u q) d o x h = at_field d o x u q h
at_step (InBody q) d o x h = at_body _ d o x q
