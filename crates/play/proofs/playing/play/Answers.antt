use Rattle.std.proofs.Common.{◌≡◌, Bool, List, [], ◌++◌, vec_items, sym, ap, ◌∙◌, ap₂}
use Rattle.std.specs.Vec.Iter.{into_iter_items}
use Rattle.std.proofs.lemmas.List.{nil_from_length}
use Rattle.model.specs.Statements.{program_of}
use Rattle.model.specs.Pipeline as model
use Rattle.program.specs.Stands.{declarations_of, statements_of, nodes_of}
use Rattle.pipeline.specs.Pipeline.{pipeline_of}
use Rattle.play.specs.Promised.{played}
use Rattle.play.specs.Stands.{events_of, outcomes_of}
use Rattle.play.specs.declared.event.Event.{Event}
use Rattle.play.specs.declared.event.Outcome.{Outcome}
use Rattle.model.proofs.Promised.{placed_sound}
use Rattle.play.proofs.AsPromised.{all_promised, played_turn, played_end}
use Rattle.play.proofs.playing.play.Goals as goal

pub loop-event-preserved : goal.loop-event-preserved
loop-event-preserved c =
    ap (λ (os : List Outcome). outcomes_of os ++ played (pipeline_of c.happen.new.pipeline) (events_of (into_iter_items c.next.new.self))) c.in_ok-push.ensures.items
    ∙ played_turn (vec_items c.loop-event.outcomes) c.happen.result (pipeline_of c.loop-event.pipeline) (pipeline_of c.happen.new.pipeline) c.in-Some.event (into_iter_items c.next.new.self)
    c.happen.ensures.outcome c.happen.ensures.does
    ∙ ap (λ (es : List Event). outcomes_of (vec_items c.loop-event.outcomes) ++ played (pipeline_of c.loop-event.pipeline) (events_of es)) (sym c.in-Some.ensures.steps.0)
    ∙ c.loop-event.invariant

pub returns : goal.returns
returns c =
    let none : into_iter_items c.loop-event.event-iterator ≡ [] =
    nil_from_length (into_iter_items c.loop-event.event-iterator) (sym c.loop-event.event-iterator.rest.ok.0 ∙ c.in-None.ensures.steps.0) in
    played_end (vec_items c.loop-event.outcomes) (pipeline_of c.loop-event.pipeline)
    ∙ ap (λ (es : List Event). outcomes_of (vec_items c.loop-event.outcomes) ++ played (pipeline_of c.loop-event.pipeline) (events_of es)) (sym none)
    ∙ c.loop-event.invariant
    ∙ ap₂ (λ (os : List Outcome) (es : List Event). outcomes_of os ++ played (pipeline_of c.in-Ok.pipeline) (events_of es)) c.new-outcomes.ensures.items c.into_iter-event-iterator.ensures.into_iter_gives.0
    ∙ ap (λ (p : model.Pipeline Bool). played p (events_of (vec_items c.args.events))) c.in-Ok.ensures.starts
    ∙ all_promised (declarations_of c.args.declarations) (program_of c.args.end (statements_of c.args.statements.now)) (nodes_of (vec_items c.in_ok-nodes.nodes))
    (placed_sound (program_of c.args.end (statements_of c.args.statements.now)) (nodes_of (vec_items c.in_ok-nodes.nodes)) c.in_ok-nodes.ensures)
    (events_of (vec_items c.args.events))
