use Rattle.std.proofs.Common.{rules, vec_items}
use Rattle.program.specs.Stands.{numbers_of}
use Rattle.update.specs.Decoding.{among}
use Rattle.update.specs.Stands.{Found}
use Rattle.update.proofs.Among.{found_among}
use Rattle.update.proofs.cursor.Cursor.settable.Goals as goal

pub returns : goal.returns
returns c =
    let h : Found c.found.result (among c.in_ok-f.f (numbers_of (vec_items c.args.table.now.sets))) c.in_ok-f.f =
    rw (c.found.ensures, c.deref.ensures.value) (found_among c.in_ok-f.f (vec_items c.args.table.now.sets)) in
    search rules
