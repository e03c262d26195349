use Rattle.std.proofs.Common.{ℕ, ◌<◌, ◌≤◌, Bool, List, length, vec_items, sym, refl, ap, arith}
use Rattle.program.specs.declared.headers.Header.{Header}
use Rattle.packet.specs.Header.{Widths}
use Rattle.packet.specs.Stands.{widths_of, present_of}
use Rattle.packet.proofs.Reading.{is_header}
use Rattle.packet.proofs.Writing.{headers_absent, headers_end, length_there}
use Rattle.packet.proofs.format.Format.size_of_present.Goals as goal
use Rattle.packet.proofs.format.Format.size_of_present.Goals.{then-has, else-has}

pub loop-number-preserved : goal.loop-number-preserved
loop-number-preserved c =
    let W : Widths = widths_of c.args.self.now.widths.now in
    let hs : List Header = vec_items c.args.self.now.headers.now.all in
    let i : ℕ = c.loop-number.number in
    let P : ℕ → Bool = present_of c.args.present in
    let below : i < length hs = omega (arith, c.loop-number-test.true) in
    elim c.if-has.branch [
      | then-has w ↦ (
        λ p. omega (arith, w.bytes-is, w.size-bytes.ensures.value, c.loop-number.invariant.0 p, length_there W hs i i c.header-item.result P p below (is_header i c.deref-header-items.ensures.value c.header-item.is) (sym w.if-has.ensures.value)),
        omega (arith, w.bytes-is, w.size-bytes.ensures.small, c.loop-number.invariant.1, w.if-has.ensures.within refl),
      )
      | else-has w ↦ (
        λ p. omega (arith, w.bytes-is, c.loop-number.invariant.0 p, ap length (headers_absent W hs i i P p below (sym w.if-has.ensures.value))),
        omega (arith, w.bytes-is, c.loop-number.invariant.1),
      )
    ]

pub returns : goal.returns
returns c =
    let W : Widths = widths_of c.args.self.now.widths.now in
    let hs : List Header = vec_items c.args.self.now.headers.now.all in
    let past : length hs ≤ c.loop-number.number = omega (arith, c.loop-number-test.false) in
    record {
      value = λ p. omega (arith, c.loop-number.invariant.0 p, ap length (headers_end W hs c.loop-number.number c.loop-number.number (present_of c.args.present) p past));
      small = omega (arith, c.loop-number.invariant.1);
    }
