-- Steps within `first` and `after` keep what holds.
use Rattle.std.proofs.Common.{◌≡◌, ℕ, ◌+◌, Bool, true, false, cond, ltb, List, length, Some, None, codes, Option, sym, refl, ap, ◌∙◌, arith}
use Rattle.std.proofs.lemmas.Bool.{ltb-true}
use Rattle.token.specs.declared.token.Sign.TheVariants.{Close, Semicolon, Colon}
use Rattle.token.specs.Tokens.{Token}
use Rattle.source.specs.Names.{Entry, find}
use Rattle.source.specs.State.{Ends, Header, Later, Never, RoutePhase, FirstName, FirstEnd, AfterName, AfterBy, ChoiceValue, ChoiceColon, ChoiceNext, ChoiceEnd, InRoute, Seen}
use Rattle.source.specs.Steps.{is_sign, says}
use Rattle.source.specs.Routing.{has_by, later, chosen, in_route}
use Rattle.limits.proofs.Rows.{none_some, found_entry}
use Rattle.limits.proofs.Stepping.{After, goes, stops, if_kept, known_kept, sign_kept, keyword_kept, word_kept, number_kept, room_kept}
use Rattle.limits.proofs.Sound.{Fits, Held}
use Rattle.limits.proofs.Changing.{state_routes, calm_routes}
use Rattle.limits.proofs.Choices.{choice_state, choice_phase}

-- a name that no header has yet
later_fits : (h : ℕ) (hs : List Entry) (w : List ℕ) (at : ℕ) → find hs w ≡ None → Fits h hs (later w at)
later_fits h hs w at e = go (ltb 24 (length w))
  where
    go : (b : Bool) → Fits h hs (cond b (Never at) (Later w at))
    go true = tt
    go false = λ k q. none_some k (sym e ∙ q)

chosen_keeps : (k n v : ℕ) (w : List ℕ) (at : ℕ) (o : Option ℕ) (d : Seen) → find d.names.headers w ≡ o → Held (InRoute (ChoiceNext k n v)) d → After Held (chosen k n v w at o d)
chosen_keeps k n v w at (Some g) d e h =
    if_kept (ltb k g) _ _ (λ t. goes (record {
      state = choice_state k n v (Header g) d h.state h.phase (record { above = ltb-true k g t; below = found_entry g d.names.headers w h.state.names.headers.numbered e });
      phase = choice_phase k n v (Header g) d h.phase;
    })) (λ t. stops)
chosen_keeps k n v w at None d e h = goes (record {
  state = choice_state k n v (later w at) d h.state h.phase (later_fits k d.names.headers w at e);
  phase = choice_phase k n v (later w at) d h.phase;
})

pub routes_keep : (p : RoutePhase) (d : Seen) (x : Token) → Held (InRoute p) d → After Held (in_route p d x)
routes_keep FirstName d x h =
    word_kept x _ (λ w. known_kept x.at (find d.names.headers w) _ (λ k e. goes (record {
      state = state_routes _ d (record {
        first = found_entry k d.names.headers w h.state.names.headers.numbered e;
        eight = h.state.routes.eight;
        own = h.state.routes.own;
        few = h.state.routes.few;
        choices = h.state.routes.choices;
      }) h.state;
      phase = calm_routes _ d h.phase;
    })))
routes_keep FirstEnd d x h = sign_kept Semicolon x _ (goes (record { state = h.state; phase = h.phase }))
routes_keep AfterName d x h =
    word_kept x _ (λ w. known_kept x.at (find d.names.headers w) _ (λ k e. if_kept (has_by k d) _ _ (λ t. stops) (λ t. goes (record {
      state = h.state;
      phase = record { calm = h.phase; there = found_entry k d.names.headers w h.state.names.headers.numbered e; unset = t };
    }))))
routes_keep (AfterBy k) d x h = keyword_kept (codes "by") x _ (goes (record { state = h.state; phase = record { use_of = h.phase; there = tt } }))
routes_keep (ChoiceValue k n) d x h =
    if_kept (is_sign Close x.kind) _ _ (λ e. goes (record { state = h.state; phase = h.phase.calm }))
    (λ e. number_kept x _ (λ v b. room_kept x.at n 8 _ (λ l. goes (record {
      state = h.state;
      phase = record {
        calm = h.phase.calm;
        there = h.phase.there;
        chooses = h.phase.chooses;
        counted = ap (λ (m : ℕ). m + 1) h.phase.counted;
        few = omega arith;
        small = b;
      };
    }))))
routes_keep (ChoiceColon k n v) d x h = sign_kept Colon x _ (goes (record { state = h.state; phase = h.phase }))
routes_keep (ChoiceNext k n v) d x h =
    if_kept (says (codes "end") x.kind) _ _ (λ e. goes (record { state = choice_state k n v Ends d h.state h.phase tt; phase = choice_phase k n v Ends d h.phase }))
    (λ e. word_kept x _ (λ w. chosen_keeps k n v w x.at (find d.names.headers w) d refl h))
routes_keep (ChoiceEnd k n) d x h = sign_kept Semicolon x _ (goes (record { state = h.state; phase = h.phase }))
