-- What a source is made of. A name is the bytes of its word; an offset stands where the program that is read keeps it.
use Rattle.std.specs.Prelude.{ℕ, List}

-- a field where it is used: `name`, or `header.name`
pub data Reference : Type 0 where
  Bare : (name : List ℕ) → Reference
  Dotted : (header name : List ℕ) → Reference

-- an operand
pub data Value : Type 0 where
  Literal : (number : ℕ) → Value
  Content : (field : Reference) → Value

pub data Verb : Type 0 where
  Set : Verb
  Add : Verb

pub data Relation : Type 0 where
  Same : Relation
  Below : Relation

-- the statements of a block: none is left; or a `set` or `add`, an `apply`, an `if`, or an `if` with an `else`, and the statements that follow it.
-- at: the offset of its first word; otherwise: that of `else`
pub data Statements : Type 0 where
  Empty : Statements
  Alter : (at : ℕ) (how : Verb) (target : Reference) (value : Value) (rest : Statements) → Statements
  Use : (at : ℕ) (table : List ℕ) (rest : Statements) → Statements
  When : (at : ℕ) (left : Reference) (how : Relation) (right : Value) (block rest : Statements) → Statements
  Either : (at : ℕ) (left : Reference) (how : Relation) (right : Value) (block : Statements) (otherwise : ℕ) (other rest : Statements) → Statements

-- a field of a header, and its width in bits
pub record Declared : Type 0 where
  pub name : List ℕ
  pub width : ℕ

-- behind a choice headers end, or the header of a name is next; at: the offset of that name
pub data Onward : Type 0 where
  Finish : Onward
  Towards : (name : List ℕ) (at : ℕ) → Onward

pub record Case : Type 0 where
  pub value : ℕ
  pub next : Onward

-- end: the offset of the `}` that closes `do`
pub data Item : Type 0 where
  HeaderItem : (name : List ℕ) (fields : List Declared) → Item
  FirstItem : (header : List ℕ) → Item
  AfterItem : (header : List ℕ) (by : Reference) (cases : List Case) → Item
  TableItem : (name : List ℕ) (look sets : List Reference) (lines : ℕ) → Item
  DoItem : (statements : Statements) (end : ℕ) → Item
