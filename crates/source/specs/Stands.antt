-- What the code's values stand for.
use Rattle.std.specs.Prelude.{Bool, true, false, List, map, reverse, Some, None, vec_items, Option}
use Rattle.program.specs.Stands.{operand_of, test_of, action_of, bits_of, numbers_of}
use Rattle.program.specs.Stands as program
use Rattle.model.specs.Declarations as declarations
use Rattle.program.specs.declared.declarations.TableDeclaration.{TableDeclaration}
use Rattle.program.specs.declared.statement.Kind.{Kind}
use Rattle.program.specs.declared.statement.Kind.TheVariants as kind
use Rattle.program.specs.declared.statement.Statement.{Statement}
use Rattle.source.specs.declared.block.Fork.{Fork}
use Rattle.source.specs.declared.block.Detour.{Detour}
use Rattle.source.specs.declared.block.Block.{Block}
use Rattle.source.specs.declared.block.Block.TheVariants as block
use Rattle.source.specs.declared.seen.Names.{Names}
use Rattle.source.specs.declared.seen.Next.{Next}
use Rattle.source.specs.declared.seen.Next.TheVariants as next
use Rattle.source.specs.declared.seen.Choice.{Choice}
use Rattle.source.specs.declared.seen.Routes.{Routes}
use Rattle.source.specs.declared.seen.Tables.{Tables}
use Rattle.source.specs.declared.seen.Body.{Body}
use Rattle.source.specs.declared.seen.Seen.{Seen}
use Rattle.source.specs.declared.phase.Verb.{Verb}
use Rattle.source.specs.declared.phase.Verb.TheVariants as verb
use Rattle.source.specs.declared.phase.Relation.{Relation}
use Rattle.source.specs.declared.phase.Relation.TheVariants as relation
use Rattle.source.specs.declared.phase.Goal.{Goal}
use Rattle.source.specs.declared.phase.Goal.TheVariants as goal
use Rattle.source.specs.declared.phase.Part.{Part}
use Rattle.source.specs.declared.phase.Part.TheVariants as part
use Rattle.source.specs.declared.phase.Purpose.{Purpose}
use Rattle.source.specs.declared.phase.Purpose.TheVariants as purpose
use Rattle.source.specs.declared.phase.HeaderPhase.{HeaderPhase}
use Rattle.source.specs.declared.phase.HeaderPhase.TheVariants as inheader
use Rattle.source.specs.declared.phase.RoutePhase.{RoutePhase}
use Rattle.source.specs.declared.phase.RoutePhase.TheVariants as inroute
use Rattle.source.specs.declared.phase.TablePhase.{TablePhase}
use Rattle.source.specs.declared.phase.TablePhase.TheVariants as intable
use Rattle.source.specs.declared.phase.FieldPhase.{FieldPhase}
use Rattle.source.specs.declared.phase.FieldPhase.TheVariants as infield
use Rattle.source.specs.declared.phase.BodyPhase.{BodyPhase}
use Rattle.source.specs.declared.phase.BodyPhase.TheVariants as inbody
use Rattle.source.specs.declared.phase.Phase.{Phase}
use Rattle.source.specs.declared.phase.Phase.TheVariants as phase
use Rattle.source.specs.Names.{entries_of, fields_of, entries_of, name_of, number_of, number_of}
use Rattle.source.specs.State as state

abbrev pub next_of : Next → state.Next
next_of next.Ends = state.Ends
next_of (next.Header h) = state.Header h.at
next_of (next.Later n at) = state.Later (name_of n) at
next_of (next.Never at) = state.Never at

abbrev pub choice_of : Choice → state.Choice
choice_of c = record { header = c.header.at; value = c.value; next = next_of c.next }

abbrev pub choices_of : List Choice → List state.Choice
choices_of cs = map choice_of cs

abbrev pub doing_of : Kind → state.Doing
doing_of (kind.Act a) = state.Act (action_of a)
doing_of (kind.Apply t) = state.Apply t.at
doing_of (kind.If t past) = state.If (test_of t) past
doing_of (kind.Skip past) = state.Skip past

abbrev pub row_of : Statement → state.Row
row_of s = record { offset = s.offset; doing = doing_of s.kind }

abbrev pub rows_of : List Statement → List state.Row
rows_of ss = map row_of ss

abbrev pub fork_of : Fork → state.Fork
fork_of f = record { index = f.index; offset = f.offset; test = test_of f.test; before = f.before.bits }

abbrev pub detour_of : Detour → state.Detour
detour_of t = record { index = t.index; offset = t.offset; applied = t.applied.bits }

abbrev pub block_of : Block → state.Block
block_of block.Do = state.Do
block_of (block.Yes f) = state.Yes (fork_of f)
block_of (block.No t) = state.No (detour_of t)

abbrev pub some_block_of : Option Block → Option state.Block
some_block_of (Some b) = Some (block_of b)
some_block_of None = None

-- the innermost block, which stands last in the code, first
abbrev pub blocks_of : List Block → List state.Block
blocks_of bs = map block_of (reverse bs)

abbrev pub names_of : Names → state.Names
names_of n = record {
  headers = entries_of (vec_items n.headers);
  fields = fields_of (vec_items n.fields);
  widths = bits_of n.widths;
  tables = entries_of (vec_items n.tables);
}

abbrev pub routes_of : Routes → state.Routes
routes_of r = record {
  first = number_of r.first;
  by = map number_of r.by;
  choices = choices_of (vec_items r.choices);
}

abbrev pub declared_of : List TableDeclaration → List declarations.TableDeclaration
declared_of ts = map program.table_of ts

abbrev pub table_state_of : Tables → state.Tables
table_state_of t = record {
  looks = numbers_of (vec_items t.looks);
  sets = numbers_of (vec_items t.sets);
  declared = declared_of (vec_items t.declared);
}

abbrev pub body_of : Body → state.Body
body_of b = record {
  rows = rows_of (vec_items b.rows);
  blocks = blocks_of (vec_items b.blocks);
  applied = b.applied.bits;
  begun = b.begun;
  end = b.end;
}

abbrev pub seen_of : Seen → state.Seen
seen_of d = record { names = names_of d.names; routes = routes_of d.routes; tables = table_state_of d.tables; body = body_of d.body }

abbrev pub adds_of : Verb → Bool
adds_of verb.Set = false
adds_of verb.Add = true

abbrev pub less_of : Relation → Bool
less_of relation.Equals = false
less_of relation.Less = true

abbrev pub goal_of : Goal → state.Goal
goal_of (goal.Change v f at) = state.Change (adds_of v) f.at at
goal_of (goal.Ask r f at) = state.Ask (less_of r) f.at at

abbrev pub part_of : Part → state.Part
part_of part.Looks = state.Looks
part_of part.Sets = state.Sets

abbrev pub purpose_of : Purpose → state.Purpose
purpose_of (purpose.By h) = state.By h.at
purpose_of (purpose.Listed p) = state.Listed (part_of p)
purpose_of (purpose.Target v at) = state.Target (adds_of v) at
purpose_of (purpose.Tested at) = state.Tested at
purpose_of (purpose.Operand g) = state.Operates (goal_of g)

abbrev pub in_header_of : HeaderPhase → state.HeaderPhase
in_header_of inheader.HeaderName = state.HeaderName
in_header_of (inheader.HeaderOpen h) = state.HeaderOpen h.at
in_header_of (inheader.FieldName h) = state.FieldName h.header.at h.bits
in_header_of (inheader.FieldWidth h f) = state.FieldWidth h.header.at f.at h.bits
in_header_of (inheader.FieldEnd h) = state.FieldEnd h.header.at h.bits

abbrev pub in_route_of : RoutePhase → state.RoutePhase
in_route_of inroute.FirstName = state.FirstName
in_route_of inroute.FirstEnd = state.FirstEnd
in_route_of inroute.AfterName = state.AfterName
in_route_of (inroute.AfterBy h) = state.AfterBy h.at
in_route_of (inroute.ChoiceValue c) = state.ChoiceValue c.header.at c.count
in_route_of (inroute.ChoiceColon c v) = state.ChoiceColon c.header.at c.count v
in_route_of (inroute.ChoiceNext c v) = state.ChoiceNext c.header.at c.count v
in_route_of (inroute.ChoiceEnd c) = state.ChoiceEnd c.header.at c.count

abbrev pub in_table_of : TablePhase → state.TablePhase
in_table_of intable.TableName = state.TableName
in_table_of intable.TableOpen = state.TableOpen
in_table_of intable.LookWord = state.LookWord
in_table_of intable.SetsWord = state.SetsWord
in_table_of (intable.ListStart p) = state.ListStart (part_of p)
in_table_of intable.LinesWord = state.LinesWord
in_table_of intable.Lines = state.Lines
in_table_of (intable.LinesEnd n) = state.LinesEnd n
in_table_of (intable.TableClose n) = state.TableClose n

abbrev pub in_field_of : FieldPhase → state.FieldPhase
in_field_of infield.Named = state.Named
in_field_of (infield.Behind m) = state.Behind (number_of m.header) (number_of m.field) m.at
in_field_of (infield.Member h) = state.Member h.at
in_field_of (infield.Past f) = state.Past f.at

abbrev pub in_body_of : BodyPhase → state.BodyPhase
in_body_of inbody.DoOpen = state.DoOpen
in_body_of inbody.Statement = state.Statement
in_body_of (inbody.ApplyName at) = state.ApplyName at
in_body_of inbody.ApplyEnd = state.ApplyEnd
in_body_of (inbody.Value g) = state.Value (goal_of g)
in_body_of (inbody.Settle g o) = state.Settle (goal_of g) (operand_of o)
in_body_of (inbody.BehindYes f) = state.BehindYes (fork_of f)
in_body_of (inbody.ElseOpen t) = state.ElseOpen (detour_of t)

abbrev pub phase_of : Phase → state.Phase
phase_of phase.Item = state.Item
phase_of (phase.InHeader p) = state.InHeader (in_header_of p)
phase_of (phase.InRoute p) = state.InRoute (in_route_of p)
phase_of (phase.InTable p) = state.InTable (in_table_of p)
phase_of (phase.InField u p) = state.InField (purpose_of u) (in_field_of p)
phase_of (phase.InBody p) = state.InBody (in_body_of p)
