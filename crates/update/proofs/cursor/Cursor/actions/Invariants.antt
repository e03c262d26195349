use Rattle.std.proofs.Common.{◌≡◌, ◌-◌, List, [], length, take}
use Rattle.model.specs.Action as action
use Rattle.program.specs.Stands.{declarations_of, table_of}
use Rattle.table.specs.Stands.{actions_of}
use Rattle.update.specs.Decoded.{Then}
use Rattle.update.specs.Decoding.{actions_at}
use Rattle.update.proofs.cursor.Cursor.actions.Given as goal

-- what is left to read, behind what was read, comes to what all comes to
abbrev pub invariant-loop-k : goal.invariant-loop-k
invariant-loop-k l = (length l.all ≡ 4) × ((then : Then (List action.Action)) →
    actions_at (declarations_of l.terms.declarations.now) (table_of l.terms.table.now) (l.count - l.k) (actions_of (take l.k l.all)) l.self.at l.self.rest.now then
    ≡ actions_at (declarations_of l.terms.declarations.now) (table_of l.terms.table.now) l.count [] l.initial.self.at l.initial.self.rest.now then)
