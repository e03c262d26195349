use Rattle.std.proofs.Common.{rules, ◌≡◌, ◌≤◌, nat_lt, length, ap, arith}
use Rattle.std.proofs.lemmas.List.{get_or_past, length-map}
use Rattle.program.specs.declared.field.Width.{Width}
use Rattle.program.specs.Stands.{bits_of}
use Rattle.update.proofs.action.known.Goals as goal

pub returns-in_err-field : goal.returns-in_err-field
returns-in_err-field c =
    let all : length c.args.widths.of ≡ 64 = search rules in
    let same : length (bits_of c.args.widths) ≡ length c.args.widths.of = length-map c.args.widths.of (λ (w : Width). w.bits) in
    let few : 64 ≤ c.args.f = c.in_err-field.ensures in
    let past : length (bits_of c.args.widths) ≤ c.args.f = omega (arith, all, same, few) in
    rw c.from_residual.ensures (ap (nat_lt 0) (get_or_past (bits_of c.args.widths) c.args.f 0 past))
