-- The end of a source is awaited only where an item is.
use Rattle.std.proofs.Common.{◌≡◌, ℕ, Bool, true, false, Some, None, Option}
use Rattle.std.proofs.lemmas.Bool.{true≢false}
use Rattle.model.specs.Action as action
use Rattle.model.specs.Action.{Operand}
use Rattle.token.specs.Tokens.{End, token}
use Rattle.source.specs.declared.fault.Fault.{Fault}
use Rattle.source.specs.State.{Seen, Phase, Item, InHeader, InRoute, InTable, InField, InBody, HeaderPhase, HeaderName, HeaderOpen, FieldName, FieldWidth, FieldEnd, RoutePhase, FirstName, FirstEnd, AfterName, AfterBy, ChoiceValue, ChoiceColon, ChoiceNext, ChoiceEnd, TablePhase, TableName, TableOpen, LookWord, SetsWord, ListStart, LinesWord, Lines, LinesEnd, TableClose, FieldPhase, Named, Behind, Member, Past, BodyPhase, DoOpen, Statement, ApplyName, ApplyEnd, Value, Settle, BehindYes, ElseOpen, Purpose, By, Listed, Target, Tested, Operates, Goal, Change, Ask}
use Rattle.source.specs.Steps.{Step, stop}
use Rattle.source.specs.Bodies.{settle}
use Rattle.source.specs.Using.{has_room_for, past, behind_name, in_field}
use Rattle.source.specs.Declaring.{in_header}
use Rattle.source.specs.Routing.{in_route}
use Rattle.source.specs.Tabling.{in_table}
use Rattle.source.specs.Reading.{in_body, step}

abbrev pub is_item : Phase → Bool
is_item Item = true
is_item (InHeader p) = false
is_item (InRoute p) = false
is_item (InTable p) = false
is_item (InField u p) = false
is_item (InBody p) = false

pub data Stopped : Step → Type 0 where
  stopped : (f : Fault) → Stopped (stop f)

module _ (d : Seen) (i : ℕ) where
  at_settle : (g : Goal) (o : Operand) → Stopped (settle g o d (token End i))
  at_settle (Change adds f at) o = stopped _
  at_settle (Ask less f at) o = stopped _

  at_past : (u : Purpose) (f : ℕ) → Stopped (past u f d (token End i))
  at_past (By h) f = stopped _
  at_past (Listed l) f = stopped _
  at_past (Target adds at) f = stopped _
  at_past (Tested at) f = stopped _
  at_past (Operates g) f = at_settle g (action.Field f)

  in_room : (at : ℕ) (b : Bool) (s : Step) → Stopped s → Stopped (mathlib.Core.Bool.cond b s (stop (Rattle.source.specs.declared.fault.Fault.TheVariants.Count at)))
  in_room at true s h = h
  in_room at false s h = stopped _

  at_behind : (u : Purpose) (h f : Option ℕ) (at : ℕ) → Stopped (behind_name u h f at d (token End i))
  at_behind u h (Some f) at = in_room at (has_room_for u d) _ (at_past u f)
  at_behind u h None at = stopped _

  at_field : (u : Purpose) (p : FieldPhase) → Stopped (in_field u p d (token End i))
  at_field u Named = stopped _
  at_field u (Behind h f at) = at_behind u h f at
  at_field u (Member h) = stopped _
  at_field u (Past f) = at_past u f

  at_header : (p : HeaderPhase) → Stopped (in_header p d (token End i))
  at_header HeaderName = stopped _
  at_header (HeaderOpen h) = stopped _
  at_header (FieldName h bits) = stopped _
  at_header (FieldWidth h f bits) = stopped _
  at_header (FieldEnd h bits) = stopped _

  at_route : (p : RoutePhase) → Stopped (in_route p d (token End i))
  at_route FirstName = stopped _
  at_route FirstEnd = stopped _
  at_route AfterName = stopped _
  at_route (AfterBy h) = stopped _
  at_route (ChoiceValue h n) = stopped _
  at_route (ChoiceColon h n v) = stopped _
  at_route (ChoiceNext h n v) = stopped _
  at_route (ChoiceEnd h n) = stopped _

  at_table : (p : TablePhase) → Stopped (in_table p d (token End i))
  at_table TableName = stopped _
  at_table TableOpen = stopped _
  at_table LookWord = stopped _
  at_table SetsWord = stopped _
  at_table (ListStart l) = stopped _
  at_table LinesWord = stopped _
  at_table Lines = stopped _
  at_table (LinesEnd n) = stopped _
  at_table (TableClose n) = stopped _

  at_body : (p : BodyPhase) → Stopped (in_body p d (token End i))
  at_body DoOpen = stopped _
  at_body Statement = stopped _
  at_body (ApplyName at) = stopped _
  at_body ApplyEnd = stopped _
  at_body (Value g) = stopped _
  at_body (Settle g o) = at_settle g o
  at_body (BehindYes f) = stopped _
  at_body (ElseOpen t) = stopped _

  pub end_stops : (p : Phase) → is_item p ≡ false → Stopped (step p d (token End i))
  end_stops Item e = absurd (true≢false e)
  end_stops (InHeader p) e = at_header p
  end_stops (InRoute p) e = at_route p
  end_stops (InTable p) e = at_table p
  end_stops (InField u p) e = at_field u p
  end_stops (InBody p) e = at_body p
