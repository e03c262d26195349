-- What the code's values stand for in the model. Every function is total.
use Rattle.std.specs.Prelude.{ℕ, cond, List, [], map, vec_items, nat_lt, slice_index, slice_index_or}
use Rattle.model.specs.Packet as packet
use Rattle.model.specs.Declarations as declarations
use Rattle.model.specs.Action as action
use Rattle.model.specs.Statements as statements
use Rattle.model.specs.Node as node
use Rattle.program.specs.declared.field.No.{No}
use Rattle.program.specs.declared.field.Width.{Width}
use Rattle.program.specs.declared.field.Widths.{Widths}
use Rattle.program.specs.declared.field.Fields.{Fields}
use Rattle.program.specs.declared.action.Operand.{Operand}
use Rattle.program.specs.declared.action.Operand.TheVariants.{Field, Number}
use Rattle.program.specs.declared.action.Test.{Test}
use Rattle.program.specs.declared.action.Test.TheVariants.{Equals, Less}
use Rattle.program.specs.declared.action.Action.{Action}
use Rattle.program.specs.declared.action.Action.TheVariants as actions
use Rattle.program.specs.declared.declarations.MatchKind.{MatchKind}
use Rattle.program.specs.declared.declarations.MatchKind.TheVariants.{Ternary}
use Rattle.program.specs.declared.declarations.TableDeclaration.{TableDeclaration}
use Rattle.program.specs.declared.declarations.Declarations.{Declarations}
use Rattle.program.specs.declared.statement.Kind.{Kind}
use Rattle.program.specs.declared.statement.Kind.TheVariants as kinds
use Rattle.program.specs.declared.statement.Statement.{Statement}
use Rattle.program.specs.declared.node.Does.{Does}
use Rattle.program.specs.declared.node.Does.TheVariants.{Halt, Act, Look, Ask}
use Rattle.program.specs.declared.node.Node.{Node}

-- a field, a table, a header
abbrev pub FieldNo : Type 0
FieldNo = No 64

abbrev pub TableNo : Type 0
TableNo = No 32

abbrev pub HeaderNo : Type 0
HeaderNo = No 8

-- the packet whose first 64 fields are these, and the others those of base
abbrev pub over : Fields → packet.Packet → packet.Packet
over x base f = cond (nat_lt f 64) (slice_index x.of f) (base f)

abbrev pub operand_of : Operand → action.Operand
operand_of (Field f) = action.Field f.at
operand_of (Number n) = action.Number n

abbrev pub test_of : Test → action.Test
test_of (Equals f o) = action.Equals f.at (operand_of o)
test_of (Less f o) = action.Less f.at (operand_of o)

abbrev pub action_of : Action → action.Action
action_of (actions.Set f o) = action.Set f.at (operand_of o)
action_of (actions.Add f o) = action.Add f.at (operand_of o)

abbrev pub kind_of : MatchKind → declarations.MatchKind
kind_of Ternary = declarations.Ternary

abbrev pub numbers_of : List FieldNo → List ℕ
numbers_of fs = map (λ (f : FieldNo). f.at) fs

abbrev pub table_of : TableDeclaration → declarations.TableDeclaration
table_of t = record { kind = kind_of t.kind; looks = numbers_of (vec_items t.looks); sets = numbers_of (vec_items t.sets); lines = t.lines }

-- a table that isn't declared looks at nothing and has no entries
abbrev pub undeclared : declarations.TableDeclaration
undeclared = record { kind = declarations.Ternary; looks = []; sets = []; lines = 0 }

-- the bits of each field
abbrev pub bits_of : Widths → List ℕ
bits_of ws = map (λ (w : Width). w.bits) ws.of

abbrev pub declarations_of : Declarations → declarations.Declarations
declarations_of d = record {
  width = λ f. slice_index (bits_of d.widths) f;
  table = λ n. slice_index_or (map table_of (vec_items d.tables)) n undeclared;
}

abbrev pub statement_kind_of : Kind → statements.Kind
statement_kind_of (kinds.Act a) = statements.Acts (action_of a)
statement_kind_of (kinds.Apply t) = statements.Applies t.at
statement_kind_of (kinds.If c n) = statements.Forks (test_of c) n
statement_kind_of (kinds.Skip n) = statements.Skips n

abbrev pub statement_of : Statement → statements.Statement
statement_of s = statements.statement s.offset (statement_kind_of s.kind)

abbrev pub statements_of : List Statement → List statements.Statement
statements_of ss = map statement_of ss

abbrev pub does_of : Does → node.Does
does_of Halt = node.Halt
does_of (Act a next) = node.Do (action_of a) next
does_of (Look t next) = node.Look t.at next
does_of (Ask c passed failed) = node.Ask (test_of c) passed failed

abbrev pub node_of : Node → node.Node
node_of n = node.node n.stage (does_of n.does)

abbrev pub nodes_of : List Node → List node.Node
nodes_of ns = map node_of ns
