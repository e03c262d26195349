-- What the entries of the code stand for in the model.
use Rattle.std.specs.Prelude.{Bool, List, [], map, vec_items, slice_index_or}
use Rattle.few.specs.Few.{items_of}
use Rattle.model.specs.Action as action
use Rattle.model.specs.Table as table
use Rattle.model.specs.Version as version
use Rattle.program.specs.Stands.{action_of}
use Rattle.program.specs.declared.action.Action.{Action}
use Rattle.table.specs.declared.entry.Pattern.{Pattern}
use Rattle.table.specs.declared.entry.Entry.{Entry}
use Rattle.table.specs.declared.entry.Edit.{Edit}
use Rattle.table.specs.declared.rows.Rows.{Rows}
use Rattle.table.specs.declared.store.Tables.{Tables}
use Rattle.table.specs.Rows.{rows_of}

abbrev pub actions_of : List Action → List action.Action
actions_of xs = map action_of xs

abbrev pub pattern_of : Pattern → table.Pattern
pattern_of w = record { value = w.value; mask = w.mask }

abbrev pub patterns_of : List Pattern → List table.Pattern
patterns_of ws = map pattern_of ws

abbrev pub entry_of : Entry → table.Entry
entry_of e = record { patterns = patterns_of (items_of e.patterns); actions = actions_of (items_of e.actions) }

abbrev pub entries_of : List Entry → List table.Entry
entries_of es = map entry_of es

-- the tables of the newest version, or of the one before; beyond the last there are no entries
abbrev pub tables_of : Tables → Bool → table.Tables
tables_of t newest n = slice_index_or (map (λ (r : Rows). entries_of (rows_of newest r)) (vec_items t.all)) n []

abbrev pub edit_of : Edit → version.Edit
edit_of g = version.Replace g.table.at (entries_of (vec_items g.entries))

abbrev pub edits_of : List Edit → List version.Edit
edits_of gs = map edit_of gs
