use Rattle.std.proofs.Common.{◌≡◌, ℕ, ◌+◌, ◌-◌, ◌*◌, ◌%◌, ◌^◌, ◌<◌, ◌≤◌, List, [], ◌++◌, length, take, replicate, sym, refl, ap, ◌∙◌, subst, ap₂, arith}
use Rattle.std.proofs.lemmas.List.{append_assoc, append-nil, take_all}
use Rattle.std.proofs.lemmas.Nat.{shl_below}
use Rattle.model.specs.Packet.{Packet}
use Rattle.packet.specs.Bits.{bits_of, bits_of_number, bytes_of}
use Rattle.packet.specs.Header.{Widths, bit_count}
use Rattle.packet.specs.Deparsing.{write_fields}
use Rattle.packet.specs.Stands.{widths_of, fields_of}
use Rattle.packet.proofs.Numbers.{bytes_of_bits}
use Rattle.packet.proofs.Reading.{bit_count_more, bit_count_end}
use Rattle.packet.proofs.Writing.{write_more, write_end, fills}
use Rattle.packet.proofs.format.Format.write_header.Goals as goal

regroup : (a b c d : List ℕ) → (a ++ (b ++ c)) ++ d ≡ (a ++ b) ++ (c ++ d)
regroup a b c d = simp append_assoc

nothing : bits_of [] ++ bits_of_number 0 0 ≡ []
unfolding bits_of bits_of_number
nothing = refl

no_bits : (x : ℕ) → bits_of_number 0 x ≡ []
unfolding bits_of_number
no_bits x = refl

pub loop-field-init : goal.loop-field-init
loop-field-init c =
    let e : c.args.header.now.from + c.args.header.now.fields - c.args.header.now.from ≡ c.args.header.now.fields = omega arith in
    let W : Widths = widths_of c.args.self.now.widths.now in
    let F : Packet = fields_of c.args.fields.now in
    let start : bits_of (take c.new-cursor.result.at c.args.out.now) ++ bits_of_number c.new-cursor.result.held c.new-cursor.result.waiting ≡ [] = rw (c.new-cursor.ensures.at, c.new-cursor.ensures.held, c.new-cursor.ensures.waiting) nothing in (
      ap (λ (l : List ℕ). l ++ write_fields W (c.args.header.now.from + c.args.header.now.fields - c.args.header.now.from) c.args.header.now.from F) start
          ∙ ap (λ (n : ℕ). write_fields W n c.args.header.now.from F) e,
      (λ i. (c.type_inv.out i).fits),
      omega (arith, c.new-cursor.ensures.at, c.new-cursor.ensures.held, ap (λ (n : ℕ). bit_count W n c.args.header.now.from) e),
    )

pub put-cursor-requires : goal.put-cursor-requires
put-cursor-requires c =
    let end : ℕ = c.args.header.now.from + c.args.header.now.fields in
    record {
      room = omega (arith, c.get.ensures, bit_count_more (widths_of c.args.self.now.widths.now) end c.loop-field.field c.loop-field-test.true, c.loop-field.invariant.2, c.loop-field.auto.out, c.requires);
    }

pub loop-field-preserved : goal.loop-field-preserved
loop-field-preserved c =
    let W : Widths = widths_of c.args.self.now.widths.now in
    let F : Packet = fields_of c.args.fields.now in
    let f : ℕ = c.loop-field.field in
    let end : ℕ = c.args.header.now.from + c.args.header.now.fields in
    let front : List ℕ = bits_of (take c.loop-field.cursor.at c.loop-field.out) in
    let waiting : List ℕ = bits_of_number c.loop-field.cursor.held c.loop-field.cursor.waiting in
    let rest : List ℕ = write_fields W (end - (f + 1)) (f + 1) F in (
      ap (λ (l : List ℕ). l ++ rest) c.put-cursor.ensures.bits
          ∙ ap (λ (w : ℕ). (front ++ (waiting ++ bits_of_number w (F f))) ++ rest) c.get.ensures
          ∙ regroup front waiting (bits_of_number (W f) (F f)) rest
          ∙ ap (λ (l : List ℕ). (front ++ waiting) ++ l) (sym (write_more W end f F c.loop-field-test.true))
          ∙ c.loop-field.invariant.0,
      (λ i. (c.type_inv.out i).fits),
      omega (arith, c.get.ensures, c.put-cursor.ensures.count, bit_count_more W end f c.loop-field-test.true, c.loop-field.invariant.2),
    )

pub overflow_cast-out-then-cursor-gt0 : goal.overflow_cast-out-then-cursor-gt0
overflow_cast-out-then-cursor-gt0 c =
    let k : ℕ = 8 - c.loop-field.cursor.held in
    let e : c.loop-field.cursor.held + k ≡ 8 = omega (arith, c.loop-field.cursor.few) in
    let P : ℕ → Type 0 = λ n. c.loop-field.cursor.waiting * 2 ^ k < 2 ^ n in
    let small : c.loop-field.cursor.waiting * 2 ^ k < 256 = subst P e (shl_below c.loop-field.cursor.waiting c.loop-field.cursor.held k c.loop-field.cursor.small) in
    omega arith

pub returns-then-cursor-gt0 : goal.returns-then-cursor-gt0
returns-then-cursor-gt0 c =
    let W : Widths = widths_of c.args.self.now.widths.now in
    let F : Packet = fields_of c.args.fields.now in
    let end : ℕ = c.args.header.now.from + c.args.header.now.fields in
    let f : ℕ = c.loop-field.field in
    let held : ℕ = c.loop-field.cursor.held in
    let x : ℕ = c.loop-field.cursor.waiting in
    let k : ℕ = 8 - held in
    let bits : List ℕ = write_fields W c.args.header.now.fields c.args.header.now.from F in
    let done : List ℕ = bits_of (take c.loop-field.cursor.at c.loop-field.out) ++ bits_of_number held x in
    let e : held + k ≡ 8 = omega (arith, c.loop-field.cursor.few) in
    let P : ℕ → Type 0 = λ n. x * 2 ^ k < 2 ^ n in
    let small : x * 2 ^ k < 256 = subst P e (shl_below x held k c.loop-field.cursor.small) in
    let byte : x * 2 ^ k % 18446744073709551616 ≡ x * 2 ^ k = omega arith in
    let last : c.loop-field.cursor.at + 1 ≡ length c.loop-field.out =
    omega (arith, c.requires, c.loop-field.auto.out, c.loop-field.invariant.2, bit_count_end W end f c.loop-field-test.false, c.loop-field.cursor.few, c.if-cursor-gt0.true) in
    let all : done ≡ bits = sym (append-nil done) ∙ ap (λ (l : List ℕ). done ++ l) (sym (write_end W end f F c.loop-field-test.false)) ∙ c.loop-field.invariant.0 in
    fills c.loop-field.out bits c.loop-field.cursor.at held x (x * 2 ^ k % 18446744073709551616) last c.if-cursor-gt0.true c.loop-field.cursor.few byte (omega arith) c.loop-field.invariant.1 all
    ∙ ap (λ (n : ℕ). bytes_of n (bits ++ replicate 7 0)) (c.loop-field.auto.out ∙ c.requires)

pub returns-else-cursor-gt0 : goal.returns-else-cursor-gt0
returns-else-cursor-gt0 c =
    let W : Widths = widths_of c.args.self.now.widths.now in
    let F : Packet = fields_of c.args.fields.now in
    let end : ℕ = c.args.header.now.from + c.args.header.now.fields in
    let f : ℕ = c.loop-field.field in
    let out : List ℕ = c.loop-field.out in
    let at : ℕ = c.loop-field.cursor.at in
    let held : ℕ = c.loop-field.cursor.held in
    let x : ℕ = c.loop-field.cursor.waiting in
    let bits : List ℕ = write_fields W c.args.header.now.fields c.args.header.now.from F in
    let none : held ≡ 0 = omega (arith, c.if-cursor-gt0.false) in
    let last : length out ≤ at = omega (arith, c.requires, c.loop-field.auto.out, c.loop-field.invariant.2, bit_count_end W end f c.loop-field-test.false) in
    let all : bits ≡ bits_of out =
    sym c.loop-field.invariant.0 ∙ ap (λ (l : List ℕ). (bits_of (take at out) ++ bits_of_number held x) ++ l) (write_end W end f F c.loop-field-test.false) ∙ append-nil (bits_of (take at out) ++ bits_of_number held x)
    ∙ ap₂ (λ (l m : List ℕ). bits_of l ++ m) (take_all at out last) (ap (λ (n : ℕ). bits_of_number n x) none ∙ no_bits x) ∙ append-nil (bits_of out) in
    sym (bytes_of_bits out (replicate 7 0) c.loop-field.invariant.1)
    ∙ ap₂ (λ (n : ℕ) (l : List ℕ). bytes_of n (l ++ replicate 7 0)) (c.loop-field.auto.out ∙ c.requires) (sym all)
