use Rattle.std.proofs.Common.{◌≡◌, ◌-◌, List, [], vec_items, vec_len}
use Rattle.model.specs.Version as version
use Rattle.program.specs.Stands.{declarations_of}
use Rattle.table.specs.Stands.{edits_of}
use Rattle.update.specs.Decoded.{Then}
use Rattle.update.specs.Decoding.{edits_at}
use Rattle.update.proofs.cursor.Cursor.edits.Given as goal

-- what is left to read, behind what was read, comes to what all comes to
abbrev pub invariant-loop-turn : goal.invariant-loop-turn
invariant-loop-turn l = (then : Then (List version.Edit)) →
    edits_at (declarations_of l.declarations) (vec_len l.declarations.tables) (l.count - l._turn) (edits_of (vec_items l.edits)) l.self.at l.self.rest.now then
    ≡ edits_at (declarations_of l.declarations) (vec_len l.declarations.tables) l.count [] l.initial.self.at l.initial.self.rest.now then
