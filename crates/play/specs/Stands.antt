-- What events and outcomes stand for in the model.
use Rattle.std.specs.Prelude.{List, [], map, Some, None, vec_items}
use Rattle.model.specs.Packet as packet
use Rattle.model.specs.Pipeline as model
use Rattle.program.specs.Stands.{over}
use Rattle.table.specs.Stands.{edits_of}
use Rattle.pipeline.specs.Stands.{besides, packet_of}
use Rattle.pipeline.specs.Pipeline.{answer_of}
use Rattle.play.specs.Promised as promised
use Rattle.play.specs.declared.event.Event.{Event}
use Rattle.play.specs.declared.event.Event.TheVariants as events
use Rattle.play.specs.declared.event.Outcome.{Outcome}
use Rattle.play.specs.declared.event.Outcome.TheVariants as outcomes

abbrev pub event_of : Event → model.Event
event_of events.Idle = model.Step model.Idle
event_of (events.Comes x) = model.Step (model.Comes (over x (besides 0 [])))
event_of (events.Update gs) = model.Update (edits_of (vec_items gs))

abbrev pub events_of : List Event → List model.Event
events_of es = map event_of es

abbrev pub outcome_of : Outcome → promised.Outcome
outcome_of (outcomes.Sent None) = promised.Sends []
outcome_of (outcomes.Sent (Some p)) = promised.Sends (packet.departs (packet_of p))
outcome_of (outcomes.Answered u) = promised.Answers (answer_of u)

abbrev pub outcomes_of : List Outcome → List promised.Outcome
outcomes_of os = map outcome_of os
