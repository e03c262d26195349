use Rattle.std.proofs.Common.{◌≡◌, length, vec_items, vec_len, sym, ap, ◌∙◌, rules}
use Rattle.std.proofs.lemmas.List.{length-map}
use Rattle.packet.specs.Stands.{headers_of}
use Rattle.program.specs.Stands.{table_of, statements_of}
use Rattle.source.specs.Names.{entry_of}
use Rattle.source.specs.Stands.{seen_of}
use Rattle.compiler.specs.Packaging.{headers_from, packaged}
use Rattle.compiler.proofs.Packing.{statements_are, program_is}
use Rattle.compiler.proofs.packaging.packaged.Goals as goal

pub returns : goal.returns
returns c =
    let seen = c.args.limited.seen in
    let d = seen_of seen in
    let many : vec_len seen.names.headers ≡ length d.names.headers = seen.names.headers.ok.0 ∙ sym (length-map (vec_items seen.names.headers) entry_of) in
    let whole : c.in-Ok.end ≡ seen.body.end = search rules in
    program_is (headers_of c.in-Ok-headers.headers) (packaged d).format.headers c.in-Ok-headers.headers.first.at (packaged d).format.first (packaged d).format.declarations
    (vec_len seen.tables.declared) (packaged d).format.tables (statements_of (vec_items seen.body.rows)) (packaged d).statements c.in-Ok.end seen.body.end
    (c.in-Ok-headers.ensures.all ∙ ap (headers_from d 0) many)
    (c.in-Ok-headers.ensures.first ∙ c.first.ensures)
    (seen.tables.declared.ok.0 ∙ sym (length-map (vec_items seen.tables.declared) table_of))
    (statements_are (vec_items seen.body.rows))
    whole
