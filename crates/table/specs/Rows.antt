-- The two versions of a table's entries that its rows stand for.
use Rattle.std.specs.Prelude.{Bool, cond, List, Some, None, vec_items, Option, Vec}
use Rattle.std.specs.declared.alloc.Global.{Global}
use Rattle.table.specs.declared.entry.Entry.{Entry}
use Rattle.table.specs.declared.rows.Rows.{Rows}

abbrev pub newest_of : Rows → List Entry
newest_of r = vec_items r.newest

abbrev pub or_newest : Option (Vec Entry Global) → List Entry → List Entry
or_newest (Some v) es = vec_items v
or_newest None es = es

-- where the last update gave nothing, both versions have the same entries
abbrev pub before_of : Rows → List Entry
before_of r = or_newest r.before (newest_of r)

-- the newest version of a table's entries, or the one before
abbrev pub rows_of : Bool → Rows → List Entry
rows_of newest r = cond newest (newest_of r) (before_of r)
