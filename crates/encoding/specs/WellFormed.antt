-- Updates that fit what a program declares, and whose numbers fit their bytes.
use Rattle.std.specs.Prelude.{◌≡◌, ℕ, ◌^◌, ◌<◌, ◌≤◌, true, false, List, [], ◌∷◌, ◌++◌, length}
use Rattle.std.specs.List.{AllByRecursion}
use Rattle.model.specs.Declarations.{Declarations, TableDeclaration}
use Rattle.model.specs.Action.{Operand, Field, Number, Action, Set, Add}
use Rattle.model.specs.Table.{Pattern, Entry}
use Rattle.model.specs.Version.{Edit, Replace}
use Rattle.update.specs.Decoding.{among, is_there, named}

-- a value, or a mask, within a field's width
pub record Fits (width n : ℕ) : Type 0 where
  pub within : n < 2 ^ width
  pub four_bytes : n < 2 ^ 32

pub record PatternFits (width : ℕ) (w : Pattern) : Type 0 where
  pub value : Fits width w.value
  pub mask : Fits width w.mask

-- as many patterns as fields that are looked at, each within its field's width
unfoldable pub PatternsFit : Declarations → List ℕ → List Pattern → Type 0
PatternsFit d [] [] = Unit {0}
PatternsFit d [] (w ∷ ws) = ⊥
PatternsFit d (f ∷ fs) [] = ⊥
PatternsFit d (f ∷ fs) (w ∷ ws) = PatternFits (d.width f) w × PatternsFit d fs ws

-- a field that is there, and whose number is a byte
pub record FieldThere (d : Declarations) (f : ℕ) : Type 0 where
  pub there : is_there d f ≡ true
  pub one_byte : f < 256

-- a field that the table may set
pub record Settable (t : TableDeclaration) (f : ℕ) : Type 0 where
  pub may_set : among f t.sets ≡ true
  pub one_byte : f < 256

abbrev pub OperandFits : Declarations → Operand → Type 0
OperandFits d (Field f) = FieldThere d f
OperandFits d (Number n) = n < 2 ^ 32

abbrev pub ActionFits : Declarations → TableDeclaration → Action → Type 0
ActionFits d t (Set f o) = Settable t f × OperandFits d o
ActionFits d t (Add f o) = Settable t f × OperandFits d o

pub record EntryFits (d : Declarations) (t : TableDeclaration) (e : Entry) : Type 0 where
  pub patterns : PatternsFit d t.looks e.patterns
  pub few_actions : length e.actions ≤ 4
  pub actions : AllByRecursion (ActionFits d t) e.actions

-- a table that is declared, and as many entries as it may have
pub record Given (d : Declarations) (tables t : ℕ) (es : List Entry) : Type 0 where
  pub declared : t < tables
  pub one_byte : t < 256
  pub few : length es ≤ (d.table t).lines
  pub two_bytes : length es < 65536
  pub entries : AllByRecursion (EntryFits d (d.table t)) es

abbrev pub EditFits : Declarations → ℕ → Edit → Type 0
EditFits d tables (Replace t es) = Given d tables t es

-- no table is named that was named before
unfoldable pub Apart : (before : List Edit) → List Edit → Type 0
Apart before [] = Unit {0}
Apart before (Replace t es ∷ gs) = (among t (named before) ≡ false) × Apart (before ++ Replace t es ∷ []) gs

pub record WellFormed (d : Declarations) (tables : ℕ) (gs : List Edit) : Type 0 where
  pub few : length gs < 256
  pub apart : Apart [] gs
  pub each : AllByRecursion (EditFits d tables) gs
