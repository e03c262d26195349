-- What a step stands for: the paths from it on.
use Rattle.std.specs.Prelude.{ℕ, List}
use Rattle.model.specs.Paths as paths
use Rattle.model.specs.Statements.{Statement, paths_at}
use Rattle.program.specs.Stands.{test_of, action_of}
use Rattle.placement.specs.declared.step.Step.{Step}
use Rattle.placement.specs.declared.step.StepKind.{StepKind}
use Rattle.placement.specs.declared.step.StepKind.TheVariants.{End, Act, Apply, If}

abbrev pub paths_of_kind : ℕ → List Statement → ℕ → StepKind → paths.Paths
paths_of_kind end ss o End = paths.Stop o
paths_of_kind end ss o (Act a next) = paths.Act o (action_of a) (paths_at end ss next)
paths_of_kind end ss o (Apply t next) = paths.Apply o t.at (paths_at end ss next)
paths_of_kind end ss o (If c yes-path no-path) = paths.Branch o (test_of c) (paths_at end ss yes-path) (paths_at end ss no-path)

abbrev pub paths_of_step : ℕ → List Statement → Step → paths.Paths
paths_of_step end ss s = paths_of_kind end ss s.offset s.kind
