use Rattle.std.proofs.Common.{rules, ◌≡◌, true, false, sym, ◌∙◌}
use Rattle.table.specs.Stands.{edits_of}
use Rattle.update.specs.Decoding.{among, named}
use Rattle.update.proofs.Declared.{named_any}
use Rattle.update.proofs.cursor.Cursor.table.Goals as goal

pub returns-then-is_named : goal.returns-then-is_named
returns-then-is_named c =
    let e : among c.in_ok-n.n (named (edits_of c.args.before.now)) ≡ true = sym (named_any c.in_ok-n.n c.args.before.now) ∙ sym c.is_named.ensures ∙ c.if-is_named.true in
    search rules

pub returns : goal.returns
returns c =
    let e : among c.in_ok-n.n (named (edits_of c.args.before.now)) ≡ false = sym (named_any c.in_ok-n.n c.args.before.now) ∙ sym c.is_named.ensures ∙ c.if-is_named.false in
    search rules
