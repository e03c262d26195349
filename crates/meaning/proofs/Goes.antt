-- One statement after the other, over plain values.
use Rattle.std.proofs.Common.{◌≡◌, ℕ, true, false, sym, ap, ◌∙◌}
use Rattle.std.proofs.lemmas.Bool.{cond-true, cond-false}
use Rattle.model.specs.Packet.{Packet}
use Rattle.model.specs.Declarations.{Declarations}
use Rattle.model.specs.Action.{Action, Test, act, passes}
use Rattle.model.specs.Table.{Tables}
use Rattle.model.specs.Paths.{Paths, Stop, Apply, Branch, Act}
use Rattle.model.specs.Meaning.{means, apply}

module _ (d : Declarations) (t : Tables) where
  pub acts : (o : ℕ) (a : Action) (x y : Paths) (p q : Packet) → y ≡ Act o a x → q ≡ act d a p → means d x t q ≡ means d y t p
  unfolding means
  acts o a x y p q is done = ap (means d x t) done ∙ sym (ap (λ (z : Paths). means d z t p) is)

  pub applies : (o n : ℕ) (x y : Paths) (p q : Packet) → y ≡ Apply o n x → q ≡ apply d t n p p → means d x t q ≡ means d y t p
  unfolding means
  applies o n x y p q is done = ap (means d x t) done ∙ sym (ap (λ (z : Paths). means d z t p) is)

  pub goes_yes : (o : ℕ) (c : Test) (x z y : Paths) (p : Packet) → y ≡ Branch o c x z → passes c p ≡ true → means d x t p ≡ means d y t p
  unfolding means
  goes_yes o c x z y p is passed = sym (ap (λ (w : Paths). means d w t p) is ∙ cond-true (passes c p) (means d x t p) (means d z t p) passed)

  pub goes_no : (o : ℕ) (c : Test) (x z y : Paths) (p : Packet) → y ≡ Branch o c x z → passes c p ≡ false → means d z t p ≡ means d y t p
  unfolding means
  goes_no o c x z y p is failed = sym (ap (λ (w : Paths). means d w t p) is ∙ cond-false (passes c p) (means d x t p) (means d z t p) failed)

  pub stops : (o : ℕ) (x : Paths) (p : Packet) → x ≡ Stop o → means d x t p ≡ p
  unfolding means
  stops o x p is = ap (λ (w : Paths). means d w t p) is
