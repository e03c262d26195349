use Rattle.std.proofs.Common.{◌≡◌, ◌-◌, List, [], vec_items}
use Rattle.model.specs.Table as table
use Rattle.program.specs.Stands.{declarations_of, table_of}
use Rattle.table.specs.Stands.{entries_of}
use Rattle.update.specs.Decoded.{Then}
use Rattle.update.specs.Decoding.{entries_at}
use Rattle.update.proofs.cursor.Cursor.entries.Given as goal

-- what is left to read, behind what was read, comes to what all comes to
abbrev pub invariant-loop-turn : goal.invariant-loop-turn
invariant-loop-turn l = (then : Then (List table.Entry)) →
    entries_at (declarations_of l.terms.declarations.now) (table_of l.terms.table.now) (l.count - l._turn) (entries_of (vec_items l.entries)) l.self.at l.self.rest.now then
    ≡ entries_at (declarations_of l.terms.declarations.now) (table_of l.terms.table.now) l.count [] l.initial.self.at l.initial.self.rest.now then
