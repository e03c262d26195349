use Rattle.std.proofs.Common.{◌≡◌, ◌≤◌, List, [], length, vec_items, take, drop}
use Rattle.model.specs.Table as table
use Rattle.program.specs.Stands.{declarations_of, numbers_of}
use Rattle.table.specs.Stands.{patterns_of}
use Rattle.update.specs.Decoded.{Then}
use Rattle.update.specs.Decoding.{patterns_at}
use Rattle.update.proofs.cursor.Cursor.patterns.Given as goal

-- what is left to read, behind what was read, comes to what all comes to
abbrev pub invariant-loop-field : goal.invariant-loop-field
invariant-loop-field l = (l.count ≤ 4) × (length l.all ≡ 4) × ((then : Then (List table.Pattern)) →
    patterns_at (declarations_of l.terms.declarations.now) (numbers_of (drop l.field-index (vec_items l.terms.table.now.looks))) (patterns_of (take l.count l.all)) l.self.at l.self.rest.now then
    ≡ patterns_at (declarations_of l.terms.declarations.now) (numbers_of (vec_items l.terms.table.now.looks)) [] l.initial.self.at l.initial.self.rest.now then)
