-- The worked cases, by computing.
use Rattle.std.proofs.Common.{refl}
use Rattle.model.specs.Promises.{WorkedCases}
use Rattle.model.specs.Action.{acts}
use Rattle.model.specs.Table.{fits, first_fit}
use Rattle.model.specs.Blocks.{paths_of}
use Rattle.model.specs.Version.{edited_all}
use Rattle.model.specs.Stage.{on_stage}
use Rattle.model.specs.Pipeline.{worked, last_of, but_last, any_older, free, run, outputs}
use Rattle.model.specs.Meant.{steps_in}
use Rattle.model.specs.Placement.{nodes_on, tables_on, beyond, room_among, size, laid_from}
use Rattle.model.specs.Cases.{idle_for, leaving_steps, fields_of, answers, cases}

pub worked_cases : WorkedCases
unfolding acts fits first_fit paths_of edited_all on_stage worked last_of but_last any_older free run outputs steps_in nodes_on tables_on beyond room_among size laid_from idle_for leaving_steps fields_of answers cases
worked_cases = refl
