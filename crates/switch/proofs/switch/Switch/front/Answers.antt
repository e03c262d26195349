use Rattle.std.proofs.Common.{◌≡◌, ℕ, ◌≤◌, Bool, ◌⊎◌, List, length, sym, ap, ◌∙◌, inl, inr, arith}
use Rattle.model.specs.Pipeline.{Pipeline}
use Rattle.frames.specs.declared.front.Next.{Next}
use Rattle.frames.specs.declared.front.Next.TheVariants as front
use Rattle.frames.specs.declared.kind.Kind.{Kind}
use Rattle.frames.specs.Reading.{read}
use Rattle.frames.specs.Stands.{read_of}
use Rattle.frames.proofs.Parts.{whole_size}
use Rattle.stream.specs.Answering.{Mode}
use Rattle.switch.specs.Stands.{mode_of}
use Rattle.switch.specs.Stepping.{Steps}
use Rattle.switch.proofs.Steps.{empty_waits, cut_waits, pause_does, whole_does, unknown_does}
use Rattle.switch.proofs.switch.Switch.front.Goals as goal

pub overflow_sub-result-in-Whole : goal.overflow_sub-result-in-Whole
overflow_sub-result-in-Whole c = omega (arith, whole_size c.args.bytes.now c.in-Whole.kind c.in-Whole.body.now c.in-Whole.rest.now (sym c.in-Whole.ensures))

-- no frame is whole
nothing : (mode : Mode (Pipeline Bool)) (x : Next) (bytes out : List ℕ) → (x ≡ front.Empty) ⊎ ((k : Kind) × (x ≡ front.Cut k)) → read_of x ≡ read bytes → Steps mode mode bytes out out 0 0
nothing mode x bytes out (inl e) is = empty_waits mode bytes out (sym is ∙ ap read_of e)
nothing mode x bytes out (inr w) is = cut_waits mode w.0 bytes out (sym is ∙ ap read_of w.1)

pub returns-in-Empty : goal.returns-in-Empty
returns-in-Empty c =
    record { does = nothing (mode_of c.args.self.now.state) c.next.result c.args.bytes.now c.args.out.now c.in-Empty.is c.next.ensures; used = omega arith; written = omega arith }

pub returns-in-Pause : goal.returns-in-Pause
returns-in-Pause c =
    let within : c.pause.result ≤ length c.args.out.now = omega (arith, c.pause.ensures.small) in
    record {
      does = pause_does (mode_of c.args.self.now.state) (mode_of c.pause.new.self.state) c.args.bytes.now c.args.out.now c.pause.new.out c.pause.result
          (omega arith) within c.in-Pause.rest.now (sym c.in-Pause.ensures) c.pause.ensures.writes c.pause.ensures.next;
      used = omega arith;
      written = within;
    }

pub returns-in-Whole : goal.returns-in-Whole
returns-in-Whole c =
    let within : c.whole.result ≤ length c.args.out.now = omega (arith, c.whole.ensures.small) in
    record {
      does = whole_does (mode_of c.args.self.now.state) (mode_of c.whole.new.self.state) c.args.bytes.now c.args.out.now c.whole.new.out c.whole.result
          (omega arith) within c.in-Whole.kind c.in-Whole.body.now c.in-Whole.rest.now (sym c.in-Whole.ensures) c.whole.ensures.does;
      used = omega arith;
      written = within;
    }

pub returns-in-Unknown : goal.returns-in-Unknown
returns-in-Unknown c =
    let within : c.unknown.result ≤ length c.args.out.now = omega (arith, c.unknown.ensures.small) in
    record {
      does = unknown_does (mode_of c.args.self.now.state) (mode_of c.unknown.new.self.state) c.args.bytes.now c.args.out.now c.unknown.new.out c.unknown.result
          (omega arith) within (sym c.in-Unknown.ensures) c.unknown.ensures.writes c.unknown.ensures.next;
      used = omega arith;
      written = within;
    }
