use Rattle.std.proofs.Common.{ℕ, ◌+◌, List, map, get_or, None, vec_items, ap, ◌∙◌}
use Rattle.source.specs.declared.name.FieldName.{FieldName}
use Rattle.packet.specs.Stands.{by_of, after_of}
use Rattle.source.specs.Names.{entries_of, fields_of, number_of}
use Rattle.source.specs.Stands.{choices_of as choices_seen}
use Rattle.compiler.specs.Packaging.{fields_before, fields_in, chooser, if_after, choices_of}
use Rattle.compiler.proofs.Heading.{header_is, same_choices}
use Rattle.compiler.proofs.headers.header.Goals as goal

pub returns : goal.returns
returns c =
    let seen = c.args.limited.now.seen in
    let by = get_or (map number_of seen.routes.by) c.args.header.at None in
    let cs = choices_of (entries_of (vec_items seen.names.headers)) c.args.header.at (choices_seen (vec_items seen.routes.choices)) in
    header_is (c.counted-span.result.before + 1) (fields_before c.args.header.at (fields_of (vec_items seen.names.fields)) + 1)
    c.counted-span.result.own (fields_in c.args.header.at (fields_of (vec_items seen.names.fields)))
    (by_of c.in_ok-after.after) (chooser by) (after_of c.in_ok-after.after) (if_after by cs)
    (ap (λ (n : ℕ). n + 1) (c.counted-span.ensures.before ∙ ap (λ (fs : List FieldName). fields_before c.args.header.at (fields_of fs)) c.deref.ensures.value))
    (c.counted-span.ensures.own ∙ ap (λ (fs : List FieldName). fields_in c.args.header.at (fields_of fs)) c.deref.ensures.value)
    (c.in_ok-after.ensures.by ∙ ap chooser c.chooser-by.ensures)
    (c.in_ok-after.ensures.choices ∙ same_choices c.args.header.at (number_of c.chooser-by.result) by c.deref-2.result.now (vec_items seen.names.headers)
    c.deref-3.result.now (vec_items seen.routes.choices) c.chooser-by.ensures c.deref-2.ensures.value c.deref-3.ensures.value)
