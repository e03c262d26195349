use Rattle.std.proofs.Common.{◌≡◌, ◌++◌, vec_items}
use Rattle.std.specs.Vec.Iter.{into_iter_items}
use Rattle.pipeline.specs.Pipeline.{pipeline_of}
use Rattle.play.specs.Promised.{played}
use Rattle.play.specs.Stands.{events_of, outcomes_of}
use Rattle.play.proofs.playing.play.Given as goal

-- the outcomes so far, and what is still to come of the events left, are what comes of all events
abbrev pub invariant-loop-event : goal.invariant-loop-event
invariant-loop-event l =
    outcomes_of (vec_items l.outcomes) ++ played (pipeline_of l.pipeline) (events_of (into_iter_items l.event-iterator))
    ≡ outcomes_of (vec_items l.initial.outcomes) ++ played (pipeline_of l.initial.pipeline) (events_of (into_iter_items l.initial.event-iterator))
