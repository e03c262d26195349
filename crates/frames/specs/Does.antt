-- What a step of the code stands for.
use Rattle.std.specs.Prelude.{ℕ, List, [], Some, None, Option}
use Rattle.frames.specs.declared.answer.Answer.{Answer}
use Rattle.frames.specs.declared.step.Step.{Step}
use Rattle.frames.specs.Answering.{written}
use Rattle.frames.specs.Serving.{Done}

-- the bytes of an answer, if there is one
abbrev pub written_if : Option Answer → List ℕ
written_if None = []
written_if (Some a) = written a

-- the step as a result and the bytes that are written
abbrev pub done_of : Step → Done
done_of s = record { result = s.result; writes = written_if s.answer }
