-- A pipeline with a sound layout gives, event by event, what is promised.
use Rattle.std.proofs.Common.{◌≡◌, Bool, List, [], ◌∷◌, ◌++◌, sym, refl, ap, ◌∙◌, ap₂}
use Rattle.model.specs.Packet.{Departure}
use Rattle.model.specs.Declarations.{Declarations}
use Rattle.model.specs.Paths.{Paths}
use Rattle.model.specs.Node.{Node}
use Rattle.model.specs.Version.{empty}
use Rattle.model.specs.Pipeline.{Pipeline, Event, Step, Update, one_bit, run, start, event}
use Rattle.model.specs.Answer.{answered}
use Rattle.model.specs.Sound.{Layout}
use Rattle.model.specs.Promises.{version}
use Rattle.model.proofs.Promised.{next_promised, answer_promised}
use Rattle.std.proofs.lemmas.List.{append-nil, append_assoc, map-append}
use Rattle.play.specs.Stands.{event_of, events_of, outcome_of, outcomes_of}
use Rattle.play.specs.declared.event.Event as event-type
use Rattle.play.specs.declared.event.Outcome as outcome-type
use Rattle.play.specs.Promised.{Outcome, Sends, Answers, promised, outcome_in, played}

module _ (d : Declarations) (x : Paths) (ns : List Node) (lays : Layout 12 ns x) where
  pub played_promised : (es before : List Event) → played (run one_bit 12 (version d ns empty) before) es ≡ promised d x before es
  unfolding played promised run
  played_promised [] before = refl
  played_promised (Step a ∷ es) before =
      ap₂ (λ (l : List Departure) (os : List Outcome). Sends l ∷ os) (next_promised d x ns lays before) (played_promised es (Step a ∷ before))
  played_promised (Update gs ∷ es) before =
      ap₂ (λ (b : Bool) (os : List Outcome). Answers (answered b) ∷ os) (answer_promised d x ns lays before) (played_promised es (Update gs ∷ before))

  -- from the start
  pub all_promised : (es : List Event) → played (start one_bit 12 (version d ns empty)) es ≡ promised d x [] es
  unfolding run
  all_promised es = played_promised es []

-- one event more
pub played_turn : (os : List outcome-type.Outcome) (o : outcome-type.Outcome) (c after : Pipeline Bool) (e : event-type.Event) (es : List event-type.Event) →
    outcome_of o ≡ outcome_in (event_of e) c → after ≡ event one_bit (event_of e) c →
    outcomes_of (os ++ (o ∷ [])) ++ played after (events_of es) ≡ outcomes_of os ++ played c (events_of (e ∷ es))
unfolding played
played_turn os o c after e es is does =
    ap (λ (l : List Outcome). l ++ played after (events_of es)) (map-append outcome_of os (o ∷ []))
    ∙ append_assoc (outcomes_of os) (outcome_of o ∷ []) (played after (events_of es))
    ∙ ap₂ (λ (x : Outcome) (p : Pipeline Bool). outcomes_of os ++ (x ∷ played p (events_of es))) is does

-- no event is left
pub played_end : (os : List outcome-type.Outcome) (c : Pipeline Bool) → outcomes_of os ≡ outcomes_of os ++ played c (events_of [])
unfolding played
played_end os c = sym (append-nil (outcomes_of os))
