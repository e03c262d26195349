use Rattle.std.proofs.Common.{◌≡◌, ℕ, ◌+◌, ◌/◌, ◌%◌, ◌≤◌, eqb, List, [], ◌∷◌, ◌++◌, length, get_or, take, drop, vec_items, sym, ap, ◌∙◌, ap₂, arith}
use Rattle.std.proofs.lemmas.Bool.{cond-false, ne_eqb}
use Rattle.std.proofs.lemmas.List.{length-take, drop-drop}
use Rattle.packet.specs.Carrying.{held}
use Rattle.packet.specs.Deparsing.{deparse}
use Rattle.packet.specs.Stands.{widths_of, headers_of, holding}
use Rattle.pipeline.specs.Stands.{packet_of}
use Rattle.stream.specs.Writing.{packet_frame}
use Rattle.switch.proofs.Carries.{deparses}
use Rattle.switch.proofs.sending.send.Goals as goal

pub returns : goal.returns
returns c =
    let p = c.args.packet.now in
    let out : List ℕ = c.args.out.now in
    let w = widths_of c.args.declarations.now.widths in
    let hs = vec_items c.args.headers.now.all in
    let payload : List ℕ = take p.payload.length p.payload.bytes in
    let bytes : List ℕ = deparse w (headers_of c.args.headers.now) (held (packet_of p)) in
    let put : deparse w (headers_of c.args.headers.now) (holding p.fields p.payload.present c.bytes-payload.result.now) ≡ bytes =
    ap (λ (l : List ℕ). deparse w (headers_of c.args.headers.now) (holding p.fields p.payload.present l)) c.bytes-payload.ensures
    ∙ deparses w hs p.fields p.payload.present payload in
    let n = c.in-Ok.length in
    let past : drop n (drop 4 out) ≡ drop (n + 4) out = drop-drop n 4 out ∙ ap (λ (k : ℕ). drop k out) (omega arith) in
    let tail : c.deparse-put.new.out ≡ bytes ++ drop (n + 4) out = c.in-Ok.ensures.writes ∙ (ap₂ (λ (u v : List ℕ). u ++ drop n v) put c.in-Some.ensures.cases.1 ∙ ap (λ (l : List ℕ). bytes ++ l) past) in
    let count : n ≡ length bytes = c.in-Ok.ensures.counts ∙ ap length put in
    let port = packet_of p 0 in
    let door : get_or c.to_be_bytes.result 3 0 ≡ port % 256 = ap (λ (l : List ℕ). get_or l 3 0) c.to_be_bytes.ensures in
    let high : get_or c.to_be_bytes-2.result 6 0 ≡ length bytes / 256 % 256 = ap (λ (l : List ℕ). get_or l 6 0) c.to_be_bytes-2.ensures ∙ ap (λ (k : ℕ). k / 256 % 256) count in
    let low : get_or c.to_be_bytes-2.result 7 0 ≡ length bytes % 256 = ap (λ (l : List ℕ). get_or l 7 0) c.to_be_bytes-2.ensures ∙ ap (λ (k : ℕ). k % 256) count in
    let kept : length c.bytes-payload.result.now ≤ 2048 =
    omega (arith, ap length c.bytes-payload.ensures, length-take p.payload.length p.payload.bytes, p.payload.fits) in
    record {
      writes = (λ i. 16 ∷ (door i ∷ (high i ∷ (low i ∷ tail i))))
          ∙ sym (ap (λ (l : List ℕ). l ++ drop (n + 4) out) (cond-false (eqb port 0) [] (packet_frame port bytes) (ne_eqb port 0 c.if-port-eq0.false)));
      small = omega (arith, c.in-Ok.ensures.small, kept);
    }
