-- What a pipeline of two versions with a placed program does next, by the events alone.
use Rattle.std.proofs.Common.{◌≡◌, true, List, take, drop, sym, ap, ◌∙◌, subst, lit<}
use Rattle.model.specs.Declarations.{Declarations}
use Rattle.model.specs.Paths.{Paths}
use Rattle.model.specs.Node.{Node}
use Rattle.model.specs.Version.{empty}
use Rattle.model.specs.Pipeline.{Event, one_bit, run, leaves, takes}
use Rattle.model.specs.Meant.{history, taken_now, meant, departures}
use Rattle.model.specs.Sound.{Layout}
use Rattle.model.specs.Placement.{rule, within}
use Rattle.model.specs.Stopping.{Placed, Lowest, None, At, verdict, lowest, misplaced, offsets, placement, stopped}
use Rattle.model.specs.Promises.{version}
use Rattle.model.proofs.Meant.{as_meant}
use Rattle.model.proofs.UpdatesTaken.{updates}
use Rattle.model.proofs.TwoSuffice.{two_suffice}
use Rattle.model.proofs.PlacementSound.{placement_is_sound}
use Rattle.model.proofs.Stops.{stopping_is_the_rule}

-- a verdict that takes a row takes the row that was judged
verdict_row : (row ns : List Node) (w : Lowest) → verdict row w ≡ Placed ns → ns ≡ row
verdict_row row ns None e = cc
verdict_row row ns (At o) e = cc

-- a program that is placed stands on a sound layout
pub placed_sound : (x : Paths) (ns : List Node) → placement 12 512 x ≡ Placed ns → Layout 12 ns x
placed_sound x ns e =
    let is : ns ≡ rule x = verdict_row (rule x) ns (lowest None (misplaced 12 512 (rule x) (offsets x))) e in
    let rightly = stopping_is_the_rule 12 512 x in
    let taken : stopped 12 512 x ≡ Placed (rule x) = rightly.same ∙ e ∙ ap Placed is in
    let inside : within 12 (rule x) ≡ true = (rightly.all_in_place.0 (rightly.placed.0 taken)).0 in
    subst (λ (l : List Node). Layout 12 l x) (sym is) ((placement_is_sound.0 x).sound 12 inside)

module _ (d : Declarations) (x : Paths) (ns : List Node) (lays : Layout 12 ns x) where
  pub next_promised : (before : List Event) → leaves (run one_bit 12 (version d ns empty) before) ≡ departures (take 1 (drop 11 (meant d x 12 empty before)))
  next_promised before = (two_suffice 12 (version d ns empty) before).same_next ∙ (as_meant d x 12 ns (lit< tt) lays empty before).after_k_steps

  pub answer_promised : (before : List Event) → takes one_bit (run one_bit 12 (version d ns empty) before) ≡ taken_now 12 (history 12 empty before)
  answer_promised before = (two_suffice 12 (version d ns empty) before).same_answer ∙ (updates 12 (version d ns empty) (lit< tt)).by_events before
