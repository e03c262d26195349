use Rattle.std.proofs.Common.{◌≡◌, eqb, ltb, ◌∙◌, arith, rules}
use Rattle.std.specs.List.{count_by}
use Rattle.source.specs.declared.name.FieldName.{FieldName}
use Rattle.compiler.proofs.Counting.{before_is, in_is, counts_within}
use Rattle.compiler.proofs.headers.counted.Goals as goal

pub returns : goal.returns
returns c =
    let n = c.args.number in
    let fs = c.args.fields.now in
    let b : c.count-before.result ≡ count_by (λ (f : FieldName). ltb f.header.at n) fs = search rules in
    let o : c.count-own.result ≡ count_by (λ (f : FieldName). eqb f.header.at n) fs = search rules in
    record { before = b ∙ before_is n fs; own = o ∙ in_is n fs; within = omega (arith, b, o, counts_within n fs) }
