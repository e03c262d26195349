use Rattle.std.proofs.Common.{◌≡◌, ℕ, ◌+◌, ◌-◌, ◌<◌, List, length, take, drop, sym, ap, ◌∙◌, ap₂, arith}
use Rattle.std.proofs.lemmas.List.{drop-drop, length-set}
use Rattle.model.specs.Packet.{Packet, put}
use Rattle.packet.specs.Bits.{bits_of, number_of}
use Rattle.packet.specs.Header.{Widths}
use Rattle.packet.specs.Parsing.{read_fields}
use Rattle.packet.specs.Stands.{widths_of, fields_of}
use Rattle.packet.proofs.Reading.{bit_count_more, fields_more, fields_end, put_is}
use Rattle.packet.proofs.format.Format.read_fields.Goals as goal

pub number_at-requires : goal.number_at-requires
number_at-requires c =
    let end : ℕ = c.args.header.now.from + c.args.header.now.fields in
    omega (arith, c.get-width.ensures, bit_count_more (widths_of c.args.self.now.widths.now) end c.loop-field.field c.loop-field-test.true, c.loop-field.invariant.1)

pub loop-field-preserved : goal.loop-field-preserved
loop-field-preserved c =
    let W : Widths = widths_of c.args.self.now.widths.now in
    let f : ℕ = c.loop-field.field in
    let at : ℕ = c.loop-field.at in
    let end : ℕ = c.args.header.now.from + c.args.header.now.fields in
    let bits : List ℕ = bits_of c.args.bytes.now.all.now in
    let few : f < length c.loop-field.fields.of = omega (arith, c.loop-field.invariant.2, c.args.header.now.ok, c.loop-field-test.true) in
    let value : c.number_at.result ≡ number_of (take (W f) (drop at bits)) = c.number_at.ensures ∙ ap (λ (w : ℕ). number_of (take w (drop at bits))) c.get-width.ensures in (
      ap₂ (λ (bs : List ℕ) (p : Packet). read_fields W (end - (f + 1)) (f + 1) bs p) (ap (λ (w : ℕ). drop (at + w) bits) c.get-width.ensures ∙ sym (drop-drop (W f) at bits))
          (put_is c.loop-field.fields.of f c.number_at.result few ∙ ap (λ (x : ℕ). put f x (fields_of c.loop-field.fields)) value)
          ∙ sym (fields_more W end f (drop at bits) (fields_of c.loop-field.fields) c.loop-field-test.true)
          ∙ c.loop-field.invariant.0,
      omega (arith, c.get-width.ensures, bit_count_more W end f c.loop-field-test.true, c.loop-field.invariant.1),
      length-set c.loop-field.fields.of f c.number_at.result ∙ c.loop-field.invariant.2,
    )

pub returns : goal.returns
returns c =
    let end : ℕ = c.args.header.now.from + c.args.header.now.fields in
    sym (fields_end (widths_of c.args.self.now.widths.now) end c.loop-field.field (drop c.loop-field.at (bits_of c.args.bytes.now.all.now)) (fields_of c.loop-field.fields) c.loop-field-test.false)
    ∙ c.loop-field.invariant.0
