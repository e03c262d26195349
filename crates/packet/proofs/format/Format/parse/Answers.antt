use Rattle.std.proofs.Common.{◌≡◌, ℕ, ◌+◌, ◌<◌, ◌≤◌, Bool, cond, ltb, List, map, length, get_or, drop, replicate, Ok, Err, vec_items, Result, sym, ap, ◌∙◌, arith}
use mathlib.Core.Path.{fun_ext}
use Rattle.std.specs.Result.{IsErrAnd, IfOk}
use Rattle.std.proofs.lemmas.List.{take_rest, length-drop}
use Rattle.std.proofs.lemmas.Bool.{le-ltb}
use Rattle.program.specs.declared.headers.Header.{Header}
use Rattle.packet.specs.Header.{Widths, Next, Then}
use Rattle.packet.specs.Contents.{Contents, unread}
use Rattle.packet.specs.Parsing.{parse_from, parse, read_header}
use Rattle.packet.specs.Stands.{widths_of, next_of, header_of, headers_of, present_of, holding, outcome_of}
use Rattle.packet.specs.Progress.{reached}
use Rattle.packet.specs.declared.parser.Progress.{Progress}
use Rattle.packet.specs.declared.parsed.Parsed.{Parsed}
use Rattle.packet.specs.declared.parsed.Refused.{Refused}
use Rattle.packet.specs.declared.parsed.Refused.TheVariants.{TooLong, EndsWithinHeader}
use Rattle.packet.proofs.Presences.{none_there}
use Rattle.packet.proofs.Reading.{parse_skips, parse_refuses, parse_reads, parse_end, goes_on, all_zero, is_header}
use Rattle.packet.proofs.format.Format.parse.Goals as goal
use Rattle.packet.proofs.format.Format.parse.Goals.{then-comes+in_ok-read, else-comes}

-- a packet that is not too long goes by its headers
short : (w : Widths) (c : List ℕ) (r : Result Contents Refused) → length c ≤ 2048 → cond (ltb 2048 (length c)) (Err TooLong) r ≡ r
short w c r h = ap (λ (b : Bool). cond b (Err TooLong) r) (le-ltb 2048 (length c) h)

-- what is passed on is the refusal
refused : (r : Result Parsed Refused) (e : Refused) → e ≡ EndsWithinHeader → IsErrAnd r (λ x. x ≡ e) → outcome_of r ≡ Err EndsWithinHeader
refused (Ok p) e is h = absurd h
refused (Err x) e is h = ap Err (h ∙ is)

refused_short : (r : Result Parsed Refused) (e : Refused) → IsErrAnd r (λ x. x ≡ e) → IfOk r (λ p. length p.payload.now ≤ 2048)
refused_short (Ok p) e h = absurd h
refused_short (Err x) e h = tt

-- nothing is read at first
start : (bs : List ℕ) → ◌≡◌ {A = Contents} (record { fields = λ f. get_or (replicate 64 0) f 0; present = present_of 0; payload = bs }) (unread bs)
start bs i = record { fields = fun_ext (all_zero 64) i; present = none_there i; payload = bs }

pub loop-number-init : goal.loop-number-init
loop-number-init c =
    (ap (parse_from (widths_of c.args.self.now.widths.now) (headers_of c.args.self.now.headers.now) 0 (Then c.args.self.now.headers.now.first.at)) (start c.args.bytes.now), omega arith)

pub returns-in_err-read : goal.returns-in_err-read
returns-in_err-read c =
    let W : Widths = widths_of c.args.self.now.widths.now in
    let hs : List Header = vec_items c.args.self.now.headers.now.all in
    let i : ℕ = c.loop-number.number in
    let below : i < length hs = omega (arith, c.loop-number-test.true) in
    let few : length c.args.bytes.now ≤ 2048 = omega (arith, c.if-bytes-gt-LONGEST.false) in
    let all : parse W (headers_of c.args.self.now.headers.now) c.args.self.now.headers.now.first.at c.args.bytes.now ≡ Err EndsWithinHeader =
    short W c.args.bytes.now (parse_from W (headers_of c.args.self.now.headers.now) 0 (Then c.args.self.now.headers.now.first.at) (unread c.args.bytes.now)) few
    ∙ sym c.loop-number.invariant.0
    ∙ parse_refuses W hs i c.header-item.result (next_of c.loop-number.progress.next) (reached c.loop-number.progress c.args.bytes.now) below (is_header i c.deref-header-items.ensures.value c.header-item.is) (sym c.if-comes.ensures.value) c.in_err-read.ensures.fits.1 in
    record { parses = all ∙ sym (refused c.from_residual.result c.in_err-read.field-0.0 c.in_err-read.ensures.fits.0 c.from_residual.ensures.1); short = refused_short c.from_residual.result c.in_err-read.field-0.0 c.from_residual.ensures.1 }

pub loop-number-preserved : goal.loop-number-preserved
loop-number-preserved c =
    let W : Widths = widths_of c.args.self.now.widths.now in
    let hs : List Header = vec_items c.args.self.now.headers.now.all in
    let bs : List ℕ = c.args.bytes.now in
    let i : ℕ = c.loop-number.number in
    let below : i < length hs = omega (arith, c.loop-number-test.true) in
    let before : Contents = reached c.loop-number.progress bs in
    let rest : Next → Contents → Result Contents Refused = parse_from W (map header_of (drop (i + 1) hs)) (i + 1) in
    elim c.if-comes.branch [
      | then-comes+in_ok-read w ↦
          let h : Header = c.header-item.result in (
            ap (λ (p : Progress). rest (next_of p.next) (reached p bs)) w.progress-is
                ∙ goes_on rest (header_of h) (next_of w.read.new.progress.next) (reached w.read.new.progress bs) (read_header W i (header_of h) before) w.in_ok-read.ensures.turns w.in_ok-read.ensures.reads
                ∙ sym (parse_reads W hs i h (next_of c.loop-number.progress.next) before below (is_header i c.deref-header-items.ensures.value c.header-item.is) (sym w.if-comes.ensures.value) w.in_ok-read.ensures.fits)
                ∙ c.loop-number.invariant.0,
            omega (arith, ap (λ (p : Progress). p.at) w.progress-is, w.in_ok-read.ensures.stays),
          )
      | else-comes w ↦ (
        ap (λ (p : Progress). rest (next_of p.next) (reached p bs)) w.progress-is
            ∙ sym (parse_skips W hs i i (next_of c.loop-number.progress.next) before below (sym w.if-comes.ensures.value))
            ∙ c.loop-number.invariant.0,
        omega (arith, ap (λ (p : Progress). p.at) w.progress-is, c.loop-number.invariant.1),
      )
    ]

pub returns : goal.returns
returns c =
    let W : Widths = widths_of c.args.self.now.widths.now in
    let hs : List Header = vec_items c.args.self.now.headers.now.all in
    let bs : List ℕ = c.args.bytes.now in
    let at : ℕ = c.loop-number.progress.at in
    let few : length bs ≤ 2048 = omega (arith, c.if-bytes-gt-LONGEST.false) in
    let past : length hs ≤ c.loop-number.number = omega (arith, c.loop-number-test.false) in
    record {
      parses =
          short W bs (parse_from W (headers_of c.args.self.now.headers.now) 0 (Then c.args.self.now.headers.now.first.at) (unread bs)) few
          ∙ sym c.loop-number.invariant.0
          ∙ parse_end W hs c.loop-number.number (next_of c.loop-number.progress.next) (reached c.loop-number.progress bs) past
          ∙ ap (λ (l : List ℕ). Ok (holding c.loop-number.progress.fields c.loop-number.progress.present l)) (sym (take_rest bs at));
      short = omega (arith, ap length (take_rest bs at), length-drop at bs);
    }
