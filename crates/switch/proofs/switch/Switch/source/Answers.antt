use Rattle.std.proofs.Common.{ℕ, List, ◌++◌, drop, refl, ap, ◌∙◌, inl, arith}
use Rattle.stream.specs.Frames.{Source}
use Rattle.codes.specs.Codes.{number_of}
use Rattle.switch.proofs.Loads.{load_refused}
use Rattle.switch.proofs.switch.Switch.source.Goals as goal

pub returns-in-Ok : goal.returns-in-Ok
returns-in-Ok c =
    rw c.in-Unloaded.is (record {
      does = (Source c.args.body.now, inl refl, c.tell.ensures.writes ∙ ap (λ (l : List ℕ). l ++ drop c.tell.result c.args.out.now) c.in-Ok.ensures.1, c.in-Ok.ensures.0);
      small = omega (arith, c.tell.ensures.count);
    })

pub returns-in-Err : goal.returns-in-Err
returns-in-Err c =
    rw c.in-Unloaded.is (record {
      does = load_refused c.in-Err.refusal c.args.body.now c.args.out.now c.tell-in-Err.new.out (number_of c.answer-code.result.code) c.answer-code.result.offset c.tell-in-Err.result
          c.in-Err.ensures c.answer-code.ensures c.tell-in-Err.ensures.writes;
      small = omega (arith, c.tell-in-Err.ensures.count);
    })

pub returns-in-Running : goal.returns-in-Running
returns-in-Running c =
    rw c.in-Running.is (record { does = (Source c.args.body.now, inl refl, c.tell-in-Running.ensures.writes, refl); small = omega (arith, c.tell-in-Running.ensures.count) })
