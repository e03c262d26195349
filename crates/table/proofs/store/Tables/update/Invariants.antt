use Rattle.std.proofs.Common.{◌≡◌, true, false}
use Rattle.std.specs.Vec.Iter.{into_iter_items}
use Rattle.model.specs.Version.{edited_all}
use Rattle.table.specs.Stands.{tables_of, edits_of}
use Rattle.table.proofs.store.Tables.update.Given as goal

-- what is left of the edits makes of the tables now what all make of them as they were; the version before stays
abbrev pub invariant-loop-edit : goal.invariant-loop-edit
invariant-loop-edit l =
    (tables_of l.self false ≡ tables_of l.initial.self false) ×
    (edited_all (edits_of (into_iter_items l.edit-iterator)) (tables_of l.self true)
    ≡ edited_all (edits_of (into_iter_items l.initial.edit-iterator)) (tables_of l.initial.self true))
