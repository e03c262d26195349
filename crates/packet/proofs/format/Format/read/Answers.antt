use Rattle.std.proofs.Common.{◌≡◌, ℕ, ◌-◌, List, length, take, drop, refl, ap, arith}
use Rattle.std.proofs.lemmas.List.{take_rest, length-drop}
use Rattle.packet.specs.Header.{Widths, size}
use Rattle.packet.specs.Stands.{widths_of, fields_of, header_of}
use Rattle.packet.proofs.Reading.{read_rest, left_behind}
use Rattle.packet.proofs.format.Format.read.Goals as goal

pub returns-then-left-taken : goal.returns-then-left-taken
returns-then-left-taken c =
    let rest : take (length c.args.bytes.now.all.now - c.args.progress.now.at) (drop c.args.progress.now.at c.args.bytes.now.all.now) ≡ drop c.args.progress.now.at c.args.bytes.now.all.now = take_rest c.args.bytes.now.all.now c.args.progress.now.at in
    record {
      stays = c.requires.within;
      fits = (refl, omega (arith, ap length rest, c.if-left-taken.true, c.size-taken.ensures.value));
      reads = tt;
      turns = tt;
    }

pub returns : goal.returns
returns c =
    let W : Widths = widths_of c.args.self.now.widths.now in
    let bs : List ℕ = c.args.bytes.now.all.now in
    let at : ℕ = c.args.progress.now.at in
    let rest : take (length bs - at) (drop at bs) ≡ drop at bs = take_rest bs at in
    record {
      stays = omega (arith, ap length rest, length-drop at bs, c.if-left-taken.false, c.requires.within);
      fits = omega (arith, ap length rest, c.if-left-taken.false, c.size-taken.ensures.value);
      reads = λ i. record {
        fields = read_rest W c.args.header.now.fields c.args.header.now.from at bs (fields_of c.args.progress.now.fields) (fields_of c.read_fields.new.fields) c.read_fields.ensures i;
        present = c.with-progress.ensures i;
        payload = left_behind bs at c.size-taken.result (size W (header_of c.args.header.now)) c.size-taken.ensures.value i;
      };
      turns = c.behind-progress.ensures;
    }

pub invariant_of-left : goal.invariant_of-left
invariant_of-left c =
    record { short = omega (arith, ap length (take_rest c.args.bytes.now.all.now c.args.progress.now.at), length-drop c.args.progress.now.at c.args.bytes.now.all.now, c.args.bytes.now.short) }
