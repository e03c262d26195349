use Rattle.std.proofs.Common.{◌≡◌, ℕ, vec_items, vec_len, sym, refl, ap, ◌∙◌, subst, inl}
use Rattle.model.specs.Answer.{Taken, OldPacketUnderWay}
use Rattle.model.specs.Pipeline.{one_bit, takes}
use Rattle.program.specs.Stands.{declarations_of}
use Rattle.compiler.specs.Program.{Format}
use Rattle.compiler.specs.Stands.{format_of}
use Rattle.pipeline.specs.Pipeline.{pipeline_of, loaded_of}
use Rattle.pipeline.specs.declared.loaded.Loaded.{Loaded}
use Rattle.table.specs.Stands.{edits_of}
use Rattle.update.specs.Decoded as decoded
use Rattle.update.specs.Decoding as decoding
use Rattle.update.specs.Stands.{Refuses}
use Rattle.stream.specs.Answering.{decode}
use Rattle.stream.specs.Frames as frames
use Rattle.codes.specs.Codes.{number_of}
use Rattle.switch.specs.Stands.{running_format}
use Rattle.switch.proofs.Serves.{update_writes_lem, update_next, refuses_faulty, faulty_done}
use Rattle.switch.proofs.running.Running.update.Goals as goal

pub returns-in-Ok-update : goal.returns-in-Ok-update
returns-in-Ok-update c =
    let self = c.args.self.now in
    let f : Format = running_format self in
    let f' : Format = format_of self.headers (loaded_of c.update.new.self).declarations in
    let same : f' ≡ f = ap (λ (l : Loaded). format_of self.headers l.declarations) c.in-Ok-update.ensures.program in
    let reads : decode f c.args.body.now ≡ decoded.Taken (edits_of (vec_items c.in-Ok.edits)) =
    ap (λ (l : Loaded). decoding.decoded (declarations_of l.declarations) (vec_len l.declarations.tables) c.args.body.now) (sym c.loaded-loaded.ensures) ∙ c.in-Ok.ensures in
    record {
      does = (
        frames.Update c.args.body.now,
        inl refl,
        update_writes_lem f c.args.body.now (edits_of (vec_items c.in-Ok.edits)) Taken (takes one_bit (pipeline_of self.pipeline)) c.args.out.now c.tell.new.out c.tell.result
            reads c.in-Ok-update.ensures.answers c.tell.ensures.writes,
        update_next f f' c.args.body.now (edits_of (vec_items c.in-Ok.edits)) (pipeline_of self.pipeline) (pipeline_of c.update.new.self) reads same c.in-Ok-update.ensures.does,
      );
      count = c.tell.ensures.count;
    }

pub returns-in-Err-update : goal.returns-in-Err-update
returns-in-Err-update c =
    let self = c.args.self.now in
    let f : Format = running_format self in
    let f' : Format = format_of self.headers (loaded_of c.update.new.self).declarations in
    let same : f' ≡ f = ap (λ (l : Loaded). format_of self.headers l.declarations) c.in-Err-update.ensures.program in
    let reads : decode f c.args.body.now ≡ decoded.Taken (edits_of (vec_items c.in-Ok.edits)) =
    ap (λ (l : Loaded). decoding.decoded (declarations_of l.declarations) (vec_len l.declarations.tables) c.args.body.now) (sym c.loaded-loaded.ensures) ∙ c.in-Ok.ensures in
    record {
      does = (
        frames.Update c.args.body.now,
        inl refl,
        update_writes_lem f c.args.body.now (edits_of (vec_items c.in-Ok.edits)) OldPacketUnderWay (takes one_bit (pipeline_of self.pipeline)) c.args.out.now c.tell-in-Err-update.new.out c.tell-in-Err-update.result
            reads c.in-Err-update.ensures.answers c.tell-in-Err-update.ensures.writes,
        update_next f f' c.args.body.now (edits_of (vec_items c.in-Ok.edits)) (pipeline_of self.pipeline) (pipeline_of c.update.new.self) reads same c.in-Err-update.ensures.does,
      );
      count = c.tell-in-Err-update.ensures.count;
    }

pub returns-in-Err : goal.returns-in-Err
returns-in-Err c =
    let self = c.args.self.now in
    let f : Format = running_format self in
    let refuses : Refuses c.in-Err.fault (decode f c.args.body.now) =
    subst (λ (l : Loaded). Refuses c.in-Err.fault (decoding.decoded (declarations_of l.declarations) (vec_len l.declarations.tables) c.args.body.now)) c.loaded-loaded.ensures c.in-Err.ensures in
    record {
      does = faulty_done f c.args.body.now (pipeline_of self.pipeline) c.in-Err.fault (number_of c.answer-code.result.code) c.answer-code.result.offset c.args.out.now c.tell-in-Err.new.out c.tell-in-Err.result
          (refuses_faulty c.in-Err.fault (decode f c.args.body.now) refuses) (ap (λ (x : ℕ × ℕ). x.0) c.answer-code.ensures) (ap (λ (x : ℕ × ℕ). x.1) c.answer-code.ensures) c.tell-in-Err.ensures.writes;
      count = c.tell-in-Err.ensures.count;
    }
