use Rattle.std.proofs.Common.{◌≡◌, ℕ, ◌+◌, ◌-◌, ◌<◌, ◌≤◌, Bool, List, [], ◌++◌, map, length, take, drop, vec_items, sym, ap, ◌∙◌, ap₂, arith}
use borrow.Rule.Slice.PartMut.{put_mid}
use Rattle.std.proofs.lemmas.List.{append_assoc, append-nil, drop-drop, take-append-drop, length-take-le}
use Rattle.std.proofs.lemmas.Slice.{take-put_mid, drop-put_mid}
use Rattle.model.specs.Packet.{Packet}
use Rattle.program.specs.declared.headers.Header.{Header}
use Rattle.packet.specs.Header.{Widths, size}
use Rattle.packet.specs.Deparsing.{write_header, write_headers}
use Rattle.packet.specs.Stands.{widths_of, fields_of, header_of, headers_of, present_of}
use Rattle.packet.proofs.Reading.{is_header}
use Rattle.packet.proofs.Writing.{headers_there, headers_absent, headers_end, length_there, length_header}
use Rattle.packet.proofs.format.Format.write_headers.Goals as goal
use Rattle.packet.proofs.format.Format.write_headers.Goals.{then-has, else-has}

pub slice_bounds-write_header-end : goal.slice_bounds-write_header-end
slice_bounds-write_header-end c =
    let W : Widths = widths_of c.args.self.now.widths.now in
    let hs : List Header = vec_items c.args.self.now.headers.now.all in
    let i : ℕ = c.loop-number.number in
    let below : i < length hs = omega (arith, c.loop-number-test.true) in
    omega (arith, c.size.ensures.value, c.loop-number.invariant.2, length_there W hs i i c.header-item.result (present_of c.args.present) (fields_of c.args.fields.now) below (is_header i c.deref-header-items.ensures.value c.header-item.is) (sym c.if-has.ensures.value))

pub loop-number-preserved : goal.loop-number-preserved
loop-number-preserved c =
    let W : Widths = widths_of c.args.self.now.widths.now in
    let F : Packet = fields_of c.args.fields.now in
    let P : ℕ → Bool = present_of c.args.present in
    let hs : List Header = vec_items c.args.self.now.headers.now.all in
    let i : ℕ = c.loop-number.number in
    let at : ℕ = c.loop-number.at in
    let out : List ℕ = c.loop-number.out in
    let before : List ℕ = c.args.out.now in
    let rest : List ℕ = write_headers W (map header_of (drop (i + 1) hs)) (i + 1) P F in
    let below : i < length hs = omega (arith, c.loop-number-test.true) in
    elim c.if-has.branch [
      | then-has w ↦
          let h : Header = c.header-item.result in
          let n : ℕ = w.size.result in
          let part : List ℕ = w.write_header.new.out in
          let out' : List ℕ = put_mid at (at + n - at) out part in
          let whole : part ≡ write_header W (header_of h) F = w.write_header.ensures in
          let long : length part ≡ n = ap length whole ∙ length_header W (header_of h) F ∙ sym w.size.ensures.value in
          let there : length (write_headers W (map header_of (drop i hs)) i P F) ≡ size W (header_of h) + length rest = length_there W hs i i h P F below (is_header i c.deref-header-items.ensures.value c.header-item.is) (sym w.if-has.ensures.value) in
          let inside : at ≤ length out = omega (arith, c.loop-number.invariant.2) in (
            ap₂ (λ (k : ℕ) (l : List ℕ). take k l ++ rest) w.at-is w.out-is
                ∙ ap (λ (l : List ℕ). l ++ rest) (take-put_mid at (at + n - at) out part (at + n) (omega arith) inside)
                ∙ append_assoc (take at out) part rest
                ∙ ap (λ (l : List ℕ). take at out ++ l) (ap (λ (l : List ℕ). l ++ rest) whole ∙ sym (headers_there W hs i i h P F below (is_header i c.deref-header-items.ensures.value c.header-item.is) (sym w.if-has.ensures.value)))
                ∙ c.loop-number.invariant.0,
            ap₂ (λ (k : ℕ) (l : List ℕ). drop k l) w.at-is w.out-is
                ∙ drop-put_mid at (at + n - at) out part (at + n) (omega arith) inside (omega arith)
                ∙ sym (drop-drop n at out) ∙ ap (λ (l : List ℕ). drop n l) c.loop-number.invariant.1 ∙ drop-drop n at before
                ∙ ap (λ (k : ℕ). drop k before) (sym w.at-is),
            omega (arith, w.at-is, there, w.size.ensures.value, c.loop-number.invariant.2, c.if-has.auto.out),
          )
      | else-has w ↦
          let same : write_headers W (map header_of (drop i hs)) i P F ≡ rest = headers_absent W hs i i P F below (sym w.if-has.ensures.value) in (
            ap₂ (λ (k : ℕ) (l : List ℕ). take k l ++ rest) w.at-is w.out-is ∙ ap (λ (l : List ℕ). take at out ++ l) (sym same) ∙ c.loop-number.invariant.0,
            ap₂ (λ (k : ℕ) (l : List ℕ). drop k l) w.at-is w.out-is ∙ c.loop-number.invariant.1 ∙ ap (λ (k : ℕ). drop k before) (sym w.at-is),
            omega (arith, w.at-is, ap length same, c.loop-number.invariant.2, c.if-has.auto.out),
          )
    ]

pub returns : goal.returns
returns c =
    let W : Widths = widths_of c.args.self.now.widths.now in
    let F : Packet = fields_of c.args.fields.now in
    let P : ℕ → Bool = present_of c.args.present in
    let hs : List Header = vec_items c.args.self.now.headers.now.all in
    let at : ℕ = c.loop-number.at in
    let out : List ℕ = c.loop-number.out in
    let all : List ℕ = write_headers W (headers_of c.args.self.now.headers.now) 0 P F in
    let past : length hs ≤ c.loop-number.number = omega (arith, c.loop-number-test.false) in
    let none : write_headers W (map header_of (drop c.loop-number.number hs)) c.loop-number.number P F ≡ [] = headers_end W hs c.loop-number.number c.loop-number.number P F past in
    let front : take at out ≡ all = sym (append-nil (take at out)) ∙ ap (λ (l : List ℕ). take at out ++ l) (sym none) ∙ c.loop-number.invariant.0 in
    let count : at ≡ length all = sym (length-take-le at out (omega (arith, c.loop-number.invariant.2))) ∙ ap length front in
    sym (take-append-drop at out) ∙ ap₂ (λ (l m : List ℕ). l ++ m) front (c.loop-number.invariant.1 ∙ ap (λ (k : ℕ). drop k c.args.out.now) count)
