use Rattle.std.proofs.Common.{◌≡◌, length, vec_items, vec_len, sym, ◌∙◌, arith}
use Rattle.std.proofs.lemmas.List.{length-map}
use Rattle.source.specs.Names.{entry_of, field_of}
use Rattle.source.specs.Stands.{seen_of}
use Rattle.limits.proofs.Holding.{limits_hold}
use Rattle.compiler.proofs.compiling.read.Goals as goal

-- a source that was read keeps the limits
pub invariant_of-packaged : goal.invariant_of-packaged
invariant_of-packaged c =
    let seen = c.in-Ok.seen in
    let limits = limits_hold c.args.source.now (seen_of seen) c.in-Ok.ensures in
    let fields : vec_len seen.names.fields ≡ length (seen_of seen).names.fields = seen.names.fields.ok.0 ∙ sym (length-map (vec_items seen.names.fields) field_of) in
    let headers : vec_len seen.names.headers ≡ length (seen_of seen).names.headers = seen.names.headers.ok.0 ∙ sym (length-map (vec_items seen.names.headers) entry_of) in
    record { fields = omega (arith, fields, limits.fields.few); headers = omega (arith, headers, limits.headers.few) }
