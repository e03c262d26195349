use Rattle.std.proofs.Common.{◌≡◌, ℕ, ◌+◌, ◌-◌, List, length, refl, arith}
use Rattle.std.proofs.lemmas.List.{length-append}
use Rattle.packet.specs.Deparsing.{write_headers}
use Rattle.packet.specs.Stands.{widths_of, fields_of, headers_of, present_of}
use Rattle.packet.proofs.Writing.{pastes}
use Rattle.packet.proofs.format.Format.deparse.Goals as goal

pub returns-then-out-end : goal.returns-then-out-end
returns-then-out-end c =
    let head : List ℕ = write_headers (widths_of c.args.self.now.widths.now) (headers_of c.args.self.now.headers.now) 0 (present_of c.args.present) (fields_of c.args.fields.now) in
    record {
      writes = refl;
      counts = omega (arith, c.if-out-end.true, c.size_of_present-head.ensures.value (fields_of c.args.fields.now), length-append head c.args.payload.now);
      within = tt;
      small = omega (arith, c.if-out-end.true, c.size_of_present-head.ensures.small);
    }

pub returns : goal.returns
returns c =
    let head : List ℕ = write_headers (widths_of c.args.self.now.widths.now) (headers_of c.args.self.now.headers.now) 0 (present_of c.args.present) (fields_of c.args.fields.now) in
    let payload : List ℕ = c.args.payload.now in
    let n : ℕ = c.size_of_present-head.result in
    let is : n ≡ length head = c.size_of_present-head.ensures.value (fields_of c.args.fields.now) in
    record {
      writes = pastes head payload c.args.out.now c.write_headers.new.out c.copy_from_slice.new.self n (n + length payload - n) is (omega arith) c.write_headers.ensures c.copy_from_slice.ensures.after;
      counts = omega (arith, is, length-append head payload);
      within = c.if-out-end.false;
      small = omega (arith, c.size_of_present-head.ensures.small);
    }
