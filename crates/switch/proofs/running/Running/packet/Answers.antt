use Rattle.std.proofs.Common.{◌≡◌, ℕ, ◌-◌, List, ◌++◌, length, take, drop, Ok, Err, sym, ap, ◌∙◌, arith}
use borrow.Rule.Slice.PartMut.{put_mid}
use Rattle.std.proofs.lemmas.List.{take_rest}
use Rattle.model.specs.Packet.{Packet, Departure, besides}
use Rattle.model.specs.Pipeline.{Comes, leaves}
use Rattle.program.specs.Stands.{over}
use Rattle.compiler.specs.Program.{Format}
use Rattle.compiler.specs.Stands.{format_of}
use Rattle.packet.specs.Contents.{Contents}
use Rattle.packet.specs.Carrying.{carried}
use Rattle.packet.specs.Parsing.{parse}
use Rattle.packet.specs.Stands.{widths_of, headers_of, holding}
use Rattle.pipeline.specs.Pipeline.{pipeline_of, loaded_of, departed_of}
use Rattle.pipeline.specs.declared.loaded.Loaded.{Loaded}
use Rattle.stream.specs.Answering.{take_apart}
use Rattle.stream.specs.Writing.{sent_all}
use Rattle.codes.specs.Codes.{number_of}
use Rattle.switch.specs.Stands.{running_format}
use Rattle.switch.proofs.Presence.{comes_carried}
use Rattle.switch.proofs.Serves.{comes_writes, comes_next, refused_writes, refused_next}
use Rattle.switch.proofs.running.Running.packet.Goals as goal

pub returns-in-Ok : goal.returns-in-Ok
returns-in-Ok c =
    let self = c.args.self.now in
    let f : Format = running_format self in
    let f' : Format = format_of self.headers (loaded_of c.step.new.self).declarations in
    let same : f' ≡ f = ap (λ (l : Loaded). format_of self.headers l.declarations) c.step.ensures.program in
    let p = c.in-Ok.parsed in
    let k : Contents = holding p.fields p.present p.payload.now in
    let parses : take_apart f c.args.body.now ≡ Ok k =
    ap (λ (l : Loaded). parse (widths_of l.declarations.widths) (headers_of self.headers) self.headers.first.at c.args.body.now) (sym c.loaded-loaded.ensures)
    ∙ c.in-Ok.ensures.parses in
    let brought : Packet = over p.fields (besides c.eight.result p.payload.now) in
    let is : brought ≡ carried k =
    comes_carried p.fields c.eight.result p.payload.now c.eight.ensures.small
    ∙ ap (λ (n : ℕ). carried (holding p.fields n p.payload.now)) c.eight.ensures.same in
    record {
      writes = comes_writes f f' c.args.body.now k (departed_of c.step.new.self) (leaves (pipeline_of self.pipeline))
          c.args.out.now c.leave.new.out c.leave.result parses same c.step.ensures.leaves c.leave.ensures.writes;
      next = comes_next f f' c.args.body.now k (Comes brought) (pipeline_of self.pipeline) (pipeline_of c.step.new.self) parses same (ap Comes is) c.step.ensures.does;
      small = omega (arith, c.leave.ensures.small);
    }

pub returns-in-Err : goal.returns-in-Err
returns-in-Err c =
    let self = c.args.self.now in
    let f : Format = running_format self in
    let f' : Format = format_of self.headers (loaded_of c.idle.new.self).declarations in
    let same : f' ≡ f = ap (λ (l : Loaded). format_of self.headers l.declarations) c.idle.ensures.program in
    let e = c.in-Err.refused in
    let parses : take_apart f c.args.body.now ≡ Err e =
    ap (λ (l : Loaded). parse (widths_of l.declarations.widths) (headers_of self.headers) self.headers.first.at c.args.body.now) (sym c.loaded-loaded.ensures)
    ∙ c.in-Err.ensures.parses in
    let xs : List Departure = departed_of c.idle.new.self in
    let mid : List ℕ = c.refuse-told.new.out in
    let n = c.refuse-told.result in
    let r = c.leave-in-Err.result in
    let long : 4102 ≡ length mid = omega arith in
    let wrote : c.leave-in-Err.new.out ≡ sent_all f' xs ++ drop r (drop n mid) =
    c.leave-in-Err.ensures.writes ∙ ap (λ (l : List ℕ). sent_all f' xs ++ drop r l) (ap (λ (k : ℕ). take (k - n) (drop n mid)) long ∙ take_rest mid n) in
    record {
      writes = ap (λ (k : ℕ). put_mid n (k - n) mid c.leave-in-Err.new.out) long ∙ refused_writes f f' c.args.body.now e xs (leaves (pipeline_of self.pipeline)) c.args.out.now mid c.leave-in-Err.new.out (number_of c.code.result) n r
          parses same c.idle.ensures.leaves c.code.ensures c.refuse-told.ensures.count c.refuse-told.ensures.writes wrote;
      next = refused_next f f' c.args.body.now e (pipeline_of self.pipeline) (pipeline_of c.idle.new.self) parses same c.idle.ensures.does;
      small = omega (arith, c.refuse-told.ensures.count, c.leave-in-Err.ensures.small);
    }
