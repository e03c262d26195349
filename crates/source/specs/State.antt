-- What has been read so far, and what is awaited next.
use Rattle.std.specs.Prelude.{ℕ, Bool, false, List, [], ◌∷◌, replicate, None, Option}
use Rattle.model.specs.Action.{Operand, Test, Action}
use Rattle.model.specs.Declarations.{TableDeclaration}
use Rattle.source.specs.Names.{Entry, Field}

-- headers, fields but for `out`, the widths of the 64 fields, and tables
pub record Names : Type 0 where
  pub headers : List Entry
  pub fields : List Field
  pub widths : List ℕ
  pub tables : List Entry

-- what a choice names: the end, a header, a header that is not declared yet, or a word that no header can have; with its offset
pub data Next : Type 0 where
  Ends : Next
  Header : (number : ℕ) → Next
  Later : (name : List ℕ) (at : ℕ) → Next
  Never : (at : ℕ) → Next

pub record Choice : Type 0 where
  pub header : ℕ
  pub value : ℕ
  pub next : Next

-- the header that comes first, the choosing field of each of the eight headers, and the choices in the order of the source
pub record Routes : Type 0 where
  pub first : Option ℕ
  pub by : List (Option ℕ)
  pub choices : List Choice

-- the fields of the `look` and the `sets` that are being read, and the tables that are read
pub record Tables : Type 0 where
  pub looks : List ℕ
  pub sets : List ℕ
  pub declared : List TableDeclaration

-- a statement in the row: jumps count from the statement that follows
pub data Doing : Type 0 where
  Act : Action → Doing
  Apply : (table : ℕ) → Doing
  If : Test → (past : ℕ) → Doing
  Skip : (past : ℕ) → Doing

pub record Row : Type 0 where
  pub offset : ℕ
  pub doing : Doing

-- an if: its index in the row, its offset, its test, and the tables that were applied before it
pub record Fork : Type 0 where
  pub index : ℕ
  pub offset : ℕ
  pub test : Test
  pub before : ℕ

-- the skip behind a yes block: its index, its offset, and the tables that were applied up to it
pub record Detour : Type 0 where
  pub index : ℕ
  pub offset : ℕ
  pub applied : ℕ

-- the block of `do`, a yes block, or a no block
pub data Block : Type 0 where
  Do : Block
  Yes : Fork → Block
  No : Detour → Block

-- statements, open blocks with the innermost first, the tables that may have been applied on a path to here (as the bits of a number),
-- whether `do` was read, and the offset of its `}`
pub record Body : Type 0 where
  pub rows : List Row
  pub blocks : List Block
  pub applied : ℕ
  pub begun : Bool
  pub end : ℕ

pub record Seen : Type 0 where
  pub names : Names
  pub routes : Routes
  pub tables : Tables
  pub body : Body

-- what an operand is read for: to set or add to a field, or to compare one; with the offset of the keyword
pub data Goal : Type 0 where
  Change : (adds : Bool) (field at : ℕ) → Goal
  Ask : (less : Bool) (field at : ℕ) → Goal

pub data Part : Type 0 where
  Looks : Part
  Sets : Part

-- what a field is read for: to choose behind a header, for a list of a table, to be changed, to be compared, or as an operand
pub data Purpose : Type 0 where
  By : (header : ℕ) → Purpose
  Listed : Part → Purpose
  Target : (adds : Bool) (at : ℕ) → Purpose
  Tested : (at : ℕ) → Purpose
  Operates : Goal → Purpose

pub data HeaderPhase : Type 0 where
  HeaderName : HeaderPhase
  HeaderOpen : (header : ℕ) → HeaderPhase
  FieldName : (header bits : ℕ) → HeaderPhase
  FieldWidth : (header field bits : ℕ) → HeaderPhase
  FieldEnd : (header bits : ℕ) → HeaderPhase

pub data RoutePhase : Type 0 where
  FirstName : RoutePhase
  FirstEnd : RoutePhase
  AfterName : RoutePhase
  AfterBy : (header : ℕ) → RoutePhase
  ChoiceValue : (header count : ℕ) → RoutePhase
  ChoiceColon : (header count value : ℕ) → RoutePhase
  ChoiceNext : (header count value : ℕ) → RoutePhase
  ChoiceEnd : (header count : ℕ) → RoutePhase

pub data TablePhase : Type 0 where
  TableName : TablePhase
  TableOpen : TablePhase
  LookWord : TablePhase
  SetsWord : TablePhase
  ListStart : Part → TablePhase
  LinesWord : TablePhase
  Lines : TablePhase
  LinesEnd : (lines : ℕ) → TablePhase
  TableClose : (lines : ℕ) → TablePhase

-- a field's name; what stands behind it, by what header and what field it names; the name behind a dot; what stands behind a field
pub data FieldPhase : Type 0 where
  Named : FieldPhase
  Behind : (header field : Option ℕ) (at : ℕ) → FieldPhase
  Member : (header : ℕ) → FieldPhase
  Past : (field : ℕ) → FieldPhase

pub data BodyPhase : Type 0 where
  DoOpen : BodyPhase
  Statement : BodyPhase
  ApplyName : (at : ℕ) → BodyPhase
  ApplyEnd : BodyPhase
  Value : Goal → BodyPhase
  Settle : Goal → Operand → BodyPhase
  BehindYes : Fork → BodyPhase
  ElseOpen : Detour → BodyPhase

pub data Phase : Type 0 where
  Item : Phase
  InHeader : HeaderPhase → Phase
  InRoute : RoutePhase → Phase
  InTable : TablePhase → Phase
  InField : Purpose → FieldPhase → Phase
  InBody : BodyPhase → Phase

abbrev pub with_names : Names → Seen → Seen
with_names n d = record { names = n; routes = d.routes; tables = d.tables; body = d.body }

abbrev pub with_routes : Routes → Seen → Seen
with_routes r d = record { names = d.names; routes = r; tables = d.tables; body = d.body }

abbrev pub with_tables : Tables → Seen → Seen
with_tables t d = record { names = d.names; routes = d.routes; tables = t; body = d.body }

abbrev pub with_body : Body → Seen → Seen
with_body b d = record { names = d.names; routes = d.routes; tables = d.tables; body = b }

-- before the first token: the only field is `out`, of 8 bits
abbrev pub nothing : Seen
nothing = record {
  names = record { headers = []; fields = []; widths = 8 ∷ replicate 63 0; tables = [] };
  routes = record { first = None; by = replicate 8 None; choices = [] };
  tables = record { looks = []; sets = []; declared = [] };
  body = record { rows = []; blocks = []; applied = 0; begun = false; end = 0 };
}
