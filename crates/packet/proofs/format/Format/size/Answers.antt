use Rattle.std.proofs.Common.{ℕ, ◌+◌, arith}
use Rattle.packet.specs.Stands.{widths_of}
use Rattle.packet.proofs.Reading.{bit_count_more, bit_count_end}
use Rattle.packet.proofs.format.Format.size.Goals as goal

pub loop-field-preserved : goal.loop-field-preserved
loop-field-preserved c =
    let end : ℕ = c.args.header.now.from + c.args.header.now.fields in (
      omega (arith, c.get.ensures, bit_count_more (widths_of c.args.self.now.widths.now) end c.loop-field.field c.loop-field-test.true, c.loop-field.invariant.0),
      omega (arith, c.get.result.narrow, c.loop-field.invariant.1),
    )

pub returns : goal.returns
returns c =
    let end : ℕ = c.args.header.now.from + c.args.header.now.fields in
    record {
      value = omega (arith, bit_count_end (widths_of c.args.self.now.widths.now) end c.loop-field.field c.loop-field-test.false, c.loop-field.invariant.0, c.div_ceil.ensures);
      small = omega (arith, c.loop-field.invariant.1, c.args.header.now.ok);
    }
