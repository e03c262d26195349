-- What holds of all that has been read so far, and what holds in each phase besides.
use Rattle.std.proofs.Common.{◌≡◌, ℕ, ◌+◌, ◌-◌, ◌^◌, ◌<◌, ◌≤◌, min, true, false, List, [], ◌∷◌, ◌++◌, length, get_or, is_some, Some, None, Option}
use Rattle.std.specs.List.{AllByRecursion}
use Rattle.model.specs.Action.{Operand}
use Rattle.source.specs.Names.{Entry, Field, find}
use Rattle.source.specs.State.{Names, Next, Ends, Header, Later, Never, Choice, Routes, Tables, Body, Fork, Detour, Block, Do, Yes, No, Goal, Change, Ask, Purpose, By, Listed, Target, Tested, Operates, HeaderPhase, HeaderName, HeaderOpen, FieldName, FieldWidth, FieldEnd, RoutePhase, FirstName, FirstEnd, AfterName, AfterBy, ChoiceValue, ChoiceColon, ChoiceNext, ChoiceEnd, TablePhase, TableName, TableOpen, LookWord, SetsWord, ListStart, LinesWord, Lines, LinesEnd, TableClose, FieldPhase, Named, Behind, Member, Past, BodyPhase, DoOpen, Statement, ApplyName, ApplyEnd, Value, Settle, BehindYes, ElseOpen, Phase, Item, InHeader, InRoute, InTable, InField, InBody, Seen}
use Rattle.source.specs.Using.{has_room_for}
use Rattle.limits.specs.Numbering.{Below}
use Rattle.limits.specs.Naming.{EntryLimits, FieldLimits, WidthLimits, Wide}
use Rattle.limits.specs.Bits.{bits_of, WholeBytes}
use Rattle.limits.specs.Tabling.{TableLimits}
use Rattle.limits.specs.Choosing.{Owns, choices_of, Behind as LaterOn}
use Rattle.limits.specs.Doing.{OperandLimits, TestLimits, RowLimits}
use Rattle.limits.proofs.Tracing.{pending, Trace}
use Rattle.limits.proofs.Traces.{ForkTrace, DetourTrace}

pub record NamesSound (n : Names) : Type 0 where
  pub headers : EntryLimits 8 n.headers
  pub fields : FieldLimits (length n.headers) n.fields
  pub tables : EntryLimits 32 n.tables
  pub widths : WidthLimits (length n.fields) n.widths

-- the tables that are read, and the lists that are being read
pub record TablesSound (fields : ℕ) (t : Tables) : Type 0 where
  pub few_looks : length t.looks ≤ 4
  pub few_sets : length t.sets ≤ 8
  pub looks_there : AllByRecursion (Below fields) t.looks
  pub sets_there : AllByRecursion (Below fields) t.sets
  pub declared : AllByRecursion (TableLimits fields) t.declared

-- the first header, if it is known, is one of so many
abbrev pub FirstBelow : Option ℕ → ℕ → Type 0
FirstBelow (Some h) count = h < count
FirstBelow None count = Unit {0}

-- what is chosen behind the header h, as long as headers may be declared: none that is found by a name comes before it
abbrev pub Fits : ℕ → List Entry → Next → Type 0
Fits h hs Ends = Unit {0}
Fits h hs (Header k) = LaterOn h (length hs) k
Fits h hs (Later w at) = (k : ℕ) → find hs w ≡ Some k → h < k
Fits h hs (Never at) = Unit {0}

pub record ChoiceSound (hs : List Entry) (by : List (Option ℕ)) (c : Choice) : Type 0 where
  pub small : c.value < 2 ^ 32
  pub there : c.header < length hs
  pub chooses : is_some (get_or by c.header None) ≡ true
  pub fits : Fits c.header hs c.next

pub record RoutesSound (hs : List Entry) (fs : List Field) (r : Routes) : Type 0 where
  pub first : FirstBelow r.first (length hs)
  pub eight : length r.by ≡ 8
  pub own : (h f : ℕ) → get_or r.by h None ≡ Some f → Owns h f fs
  pub few : (h : ℕ) → choices_of h r.choices ≤ 8
  pub choices : AllByRecursion (ChoiceSound hs r.by) r.choices

pub record ForkSound (fields count : ℕ) (f : Fork) : Type 0 where
  pub there : f.index < count
  pub test : TestLimits fields f.test

abbrev pub BlockSound : (fields count : ℕ) → Block → Type 0
BlockSound fields count Do = Unit {0}
BlockSound fields count (Yes f) = ForkSound fields count f
BlockSound fields count (No t) = t.index < count

pub record BodySound (fields tables : ℕ) (b : Body) : Type 0 where
  pub rows : RowLimits fields tables (length b.rows) 0 b.rows
  pub blocks : AllByRecursion (BlockSound fields (length b.rows)) b.blocks

pub record State (d : Seen) : Type 0 where
  pub names : NamesSound d.names
  pub tables : TablesSound (length d.names.fields + 1) d.tables
  pub routes : RoutesSound d.names.headers d.names.fields d.routes
  pub body : BodySound (length d.names.fields + 1) (length d.names.tables) d.body

-- the block of `do` is the outermost, and is open
unfoldable pub Open : List Block → Type 0
Open [] = ⊥
Open (Do ∷ bs) = bs ≡ []
Open (Yes f ∷ bs) = Open bs
Open (No t ∷ bs) = Open bs

-- no block is open; in each case no table is applied twice on a path
pub record AtRest (b : Body) : Type 0 where
  pub shut : b.blocks ≡ []
  pub trace : Trace [] b.rows b.applied []

pub record Inside (b : Body) : Type 0 where
  pub within : Open b.blocks
  pub trace : Trace (pending b.blocks) b.rows b.applied b.blocks

-- all fields have their widths, and all headers are whole
pub record Shaped (headers : ℕ) (fs : List Field) (ws : List ℕ) : Type 0 where
  pub wide : Wide (length fs) ws
  pub whole : (h : ℕ) → h < headers → WholeBytes (bits_of fs ws h)

abbrev pub AllShaped : Names → Type 0
AllShaped n = Shaped (length n.headers) n.fields n.widths

abbrev pub AllDeclared : Seen → Type 0
AllDeclared d = length d.tables.declared ≡ length d.names.tables

-- between items
pub record Calm (d : Seen) : Type 0 where
  pub shaped : AllShaped d.names
  pub all_declared : AllDeclared d
  pub at_rest : AtRest d.body

-- in the header h, the last, whose fields have these bits so far
pub record Heading (h bits : ℕ) (d : Seen) : Type 0 where
  pub last : h + 1 ≡ length d.names.headers
  pub wide : Wide (length d.names.fields) d.names.widths
  pub before : (g : ℕ) → g < h → WholeBytes (bits_of d.names.fields d.names.widths g)
  pub so_far : min (bits_of d.names.fields d.names.widths h) 257 ≡ bits
  pub all_declared : AllDeclared d
  pub at_rest : AtRest d.body

-- in the header h, the width of the field f, the last, is awaited
pub record Widening (h f bits : ℕ) (d : Seen) : Type 0 where
  pub last : h + 1 ≡ length d.names.headers
  pub front : List Field
  pub name : List ℕ
  pub newest : d.names.fields ≡ front ++ record { name = name; header = h; number = f } ∷ []
  pub number : length front + 1 ≡ f
  pub wide : Wide (f - 1) d.names.widths
  pub before : (g : ℕ) → g < h → WholeBytes (bits_of front d.names.widths g)
  pub so_far : min (bits_of front d.names.widths h) 257 ≡ bits
  pub all_declared : AllDeclared d
  pub at_rest : AtRest d.body

-- behind `after`: the header h has no choosing field yet
pub record Awaiting (h : ℕ) (d : Seen) : Type 0 where
  pub calm : Calm d
  pub there : h < length d.names.headers
  pub unset : is_some (get_or d.routes.by h None) ≡ false

-- between the choices of the header h, of which there are so many
pub record Choosing (h count : ℕ) (d : Seen) : Type 0 where
  pub calm : Calm d
  pub there : h < length d.names.headers
  pub chooses : is_some (get_or d.routes.by h None) ≡ true
  pub counted : choices_of h d.routes.choices ≡ count
  pub few : count ≤ 8

-- within the choice of that number
pub record Valued (h count v : ℕ) (d : Seen) : Type 0 where
  pub calm : Calm d
  pub there : h < length d.names.headers
  pub chooses : is_some (get_or d.routes.by h None) ≡ true
  pub counted : choices_of h d.routes.choices + 1 ≡ count
  pub few : count ≤ 8
  pub small : v < 2 ^ 32

-- in a table
pub record Tabling (d : Seen) : Type 0 where
  pub shaped : AllShaped d.names
  pub one_left : length d.tables.declared + 1 ≡ length d.names.tables
  pub at_rest : AtRest d.body

pub record Lined (lines : ℕ) (d : Seen) : Type 0 where
  pub tabling : Tabling d
  pub some : 1 ≤ lines
  pub few : lines ≤ 256

-- in `do`
pub record Doing (d : Seen) : Type 0 where
  pub shaped : AllShaped d.names
  pub all_declared : AllDeclared d
  pub inside : Inside d.body

-- a statement is being read that has a field already
abbrev pub GoalSound : Goal → ℕ → Type 0
GoalSound (Change adds f at) fields = f < fields
GoalSound (Ask less f at) fields = f < fields

pub record Aiming (g : Goal) (d : Seen) : Type 0 where
  pub doing : Doing d
  pub goal : GoalSound g (length d.names.fields + 1)

abbrev pub PhasedHeader : HeaderPhase → Seen → Type 0
PhasedHeader HeaderName d = Calm d
PhasedHeader (HeaderOpen h) d = Heading h 0 d
PhasedHeader (FieldName h bits) d = Heading h bits d
PhasedHeader (FieldWidth h f bits) d = Widening h f bits d
PhasedHeader (FieldEnd h bits) d = Heading h bits d

abbrev pub PhasedRoute : RoutePhase → Seen → Type 0
PhasedRoute FirstName d = Calm d
PhasedRoute FirstEnd d = Calm d
PhasedRoute AfterName d = Calm d
PhasedRoute (AfterBy h) d = Awaiting h d
PhasedRoute (ChoiceValue h n) d = Choosing h n d
PhasedRoute (ChoiceColon h n v) d = Valued h n v d
PhasedRoute (ChoiceNext h n v) d = Valued h n v d
PhasedRoute (ChoiceEnd h n) d = Choosing h n d

abbrev pub PhasedTable : TablePhase → Seen → Type 0
PhasedTable TableName d = Calm d
PhasedTable TableOpen d = Tabling d
PhasedTable LookWord d = Tabling d
PhasedTable SetsWord d = Tabling d
PhasedTable (ListStart p) d = Tabling d
PhasedTable LinesWord d = Tabling d
PhasedTable Lines d = Tabling d
PhasedTable (LinesEnd n) d = Lined n d
PhasedTable (TableClose n) d = Lined n d

-- where a field is read for a purpose
abbrev pub ForUse : Purpose → Seen → Type 0
ForUse (By h) d = Awaiting h d
ForUse (Listed l) d = Tabling d
ForUse (Target adds at) d = Doing d
ForUse (Tested at) d = Doing d
ForUse (Operates g) d = Aiming g d

-- the header, or the field, is one that may be named for a purpose
abbrev pub HeaderFits : Purpose → ℕ → Type 0
HeaderFits (By h) k = k ≡ h
HeaderFits (Listed l) k = Unit {0}
HeaderFits (Target adds at) k = Unit {0}
HeaderFits (Tested at) k = Unit {0}
HeaderFits (Operates g) k = Unit {0}

abbrev pub FieldFits : Purpose → List Field → ℕ → Type 0
FieldFits (By h) fs f = Owns h f fs
FieldFits (Listed l) fs f = f < length fs + 1
FieldFits (Target adds at) fs f = f < length fs + 1
FieldFits (Tested at) fs f = f < length fs + 1
FieldFits (Operates g) fs f = f < length fs + 1

pub record BehindName (u : Purpose) (h f : Option ℕ) (d : Seen) : Type 0 where
  pub header : (k : ℕ) → h ≡ Some k → HeaderFits u k
  pub field : (g : ℕ) → f ≡ Some g → FieldFits u d.names.fields g

pub record InMember (u : Purpose) (h : ℕ) (d : Seen) : Type 0 where
  pub has_room_lem : has_room_for u d ≡ true
  pub header : HeaderFits u h

pub record PastField (u : Purpose) (f : ℕ) (d : Seen) : Type 0 where
  pub has_room_lem : has_room_for u d ≡ true
  pub field : FieldFits u d.names.fields f

abbrev pub AtField : Purpose → FieldPhase → Seen → Type 0
AtField u Named d = Unit {0}
AtField u (Behind h f at) d = BehindName u h f d
AtField u (Member h) d = InMember u h d
AtField u (Past f) d = PastField u f d

pub record PhasedField (u : Purpose) (p : FieldPhase) (d : Seen) : Type 0 where
  pub use_of : ForUse u d
  pub there : AtField u p d

pub record Settling (g : Goal) (o : Operand) (d : Seen) : Type 0 where
  pub aiming : Aiming g d
  pub operand : OperandLimits (length d.names.fields + 1) o

pub record Forked (f : Fork) (d : Seen) : Type 0 where
  pub doing : Doing d
  pub traced : ForkTrace (pending d.body.blocks) d.body.rows d.body.applied d.body.blocks f
  pub fork : ForkSound (length d.names.fields + 1) (length d.body.rows) f

pub record Detoured (t : Detour) (d : Seen) : Type 0 where
  pub shaped : AllShaped d.names
  pub all_declared : AllDeclared d
  pub within : Open d.body.blocks
  pub traced : DetourTrace (pending d.body.blocks) d.body.rows d.body.applied d.body.blocks t
  pub there : t.index < length d.body.rows

abbrev pub PhasedBody : BodyPhase → Seen → Type 0
PhasedBody DoOpen d = Calm d
PhasedBody Statement d = Doing d
PhasedBody (ApplyName at) d = Doing d
PhasedBody ApplyEnd d = Doing d
PhasedBody (Value g) d = Aiming g d
PhasedBody (Settle g o) d = Settling g o d
PhasedBody (BehindYes f) d = Forked f d
PhasedBody (ElseOpen t) d = Detoured t d

abbrev pub Phased : Phase → Seen → Type 0
Phased Item d = Calm d
Phased (InHeader p) d = PhasedHeader p d
Phased (InRoute p) d = PhasedRoute p d
Phased (InTable p) d = PhasedTable p d
Phased (InField u p) d = PhasedField u p d
Phased (InBody p) d = PhasedBody p d

pub record Held (p : Phase) (d : Seen) : Type 0 where
  pub state : State d
  pub phase : Phased p d
