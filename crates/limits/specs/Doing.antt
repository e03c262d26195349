-- Limits on the statements of a program: where there are so many fields, `out` among them, and so many tables.
use Rattle.std.specs.Prelude.{ℕ, ◌+◌, ◌^◌, ◌<◌, ◌≤◌, List, [], ◌∷◌}
use Rattle.model.specs.Action.{Operand, Field, Number, Test, Equals, Less, Action, Set, Add}
use Rattle.source.specs.State.{Doing, Act, Apply, If, Skip, Row}

abbrev pub OperandLimits : ℕ → Operand → Type 0
OperandLimits fields (Field f) = f < fields
OperandLimits fields (Number n) = n < 2 ^ 32

abbrev pub TestLimits : ℕ → Test → Type 0
TestLimits fields (Equals f o) = (f < fields) × OperandLimits fields o
TestLimits fields (Less f o) = (f < fields) × OperandLimits fields o

abbrev pub ActionLimits : ℕ → Action → Type 0
ActionLimits fields (Set f o) = (f < fields) × OperandLimits fields o
ActionLimits fields (Add f o) = (f < fields) × OperandLimits fields o

-- the statement at an index of a row of so many: a jump stays within the row, or goes to its end
abbrev pub DoingLimits : (fields tables count index : ℕ) → Doing → Type 0
DoingLimits fields tables count i (Act a) = ActionLimits fields a
DoingLimits fields tables count i (Apply t) = t < tables
DoingLimits fields tables count i (If c past) = TestLimits fields c × (i + 1 + past ≤ count)
DoingLimits fields tables count i (Skip past) = i + 1 + past ≤ count

-- the statements from an index on
unfoldable pub RowLimits : (fields tables count index : ℕ) → List Row → Type 0
RowLimits fields tables count i [] = Unit {0}
RowLimits fields tables count i (r ∷ rs) = DoingLimits fields tables count i r.doing × RowLimits fields tables count (i + 1) rs
