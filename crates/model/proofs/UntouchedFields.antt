-- What a program does not change: the fields from a bound on, if it and the tables change only fields below.
use Rattle.std.proofs.Common.{◌≡◌, ℕ, zero, suc, ◌+◌, ◌%◌, ◌^◌, ◌≤◌, true, false, cond, eqb, List, [], ◌∷◌, get_or, refl, ◌∙◌, arith}
use Rattle.std.proofs.lemmas.Bool.{ne_eqb, cond-false, cond_both}
use Rattle.model.specs.Packet.{Packet, put}
use Rattle.model.specs.Declarations.{Declarations}
use Rattle.model.specs.Action.{Action, Set, Add, value, act, acts, passes}
use Rattle.model.specs.Table.{Entry, Tables, chosen, no_entry, taken}
use Rattle.model.specs.Paths.{Paths, Stop, Apply, Branch, Act}
use Rattle.model.specs.Meaning.{means, apply}
use Rattle.model.specs.Version.{Edit, Replace, edited, edited_all}
use Rattle.model.specs.Pipeline.{Event, Step, Update}
use Rattle.model.specs.Meant.{history, taken_now}
use Rattle.model.specs.Untouched.{ActionBelow, Every, EntryBelow, TablesBelow, PathsBelow, EditBelow, EventBelow}
use Rattle.model.specs.Promises.{Untouched}

put_other : (f g x : ℕ) (p : Packet) → (g ≡ f → ⊥) → put f x p g ≡ p g
put_other f g x p ne = cond-false (eqb g f) x (p g) (ne_eqb g f ne)

module _ (m : ℕ) (d : Declarations) (f : ℕ) (above : m ≤ f) where
  act_keeps : (a : Action) (p : Packet) → ActionBelow m a → act d a p f ≡ p f
  act_keeps (Set g o) p h = put_other g f (value o p % (2 ^ d.width g)) p (λ (e : f ≡ g). omega arith)
  act_keeps (Add g o) p h = put_other g f ((p g + value o p) % (2 ^ d.width g)) p (λ (e : f ≡ g). omega arith)

  acts_keep : (xs : List Action) (p : Packet) → Every (ActionBelow m) xs → acts d xs p f ≡ p f
  unfolding acts
  acts_keep [] p h = refl
  acts_keep (a ∷ more) p h = acts_keep more (act d a p) h.1 ∙ act_keeps a p h.0

  entry_below : (es : List Entry) (i : ℕ) → Every (EntryBelow m) es → EntryBelow m (get_or es i no_entry)
  entry_below [] i h = tt
  entry_below (e ∷ es) zero h = h.0
  entry_below (e ∷ es) (suc i) h = entry_below es i h.1

  apply_keeps : (t : Tables) (n : ℕ) (seen p : Packet) → TablesBelow m t → apply d t n seen p f ≡ p f
  apply_keeps t n seen p h = acts_keep (taken (d.table n) (t n) seen) p (entry_below (t n) (chosen (d.table n) (t n) seen) (h n))

  means_keeps : (x : Paths) (t : Tables) (p : Packet) → PathsBelow m x → TablesBelow m t → means d x t p f ≡ p f
  unfolding means
  means_keeps (Stop o) t p hx ht = refl
  means_keeps (Apply o n x) t p hx ht = means_keeps x t (apply d t n p p) hx ht ∙ apply_keeps t n p p ht
  means_keeps (Branch o c x y) t p hx ht =
      cond_both (passes c p) (means d x t p) (means d y t p) (λ q. q f ≡ p f) (λ e. means_keeps x t p hx.0 ht) (λ e. means_keeps y t p hx.1 ht)
  means_keeps (Act o a x) t p hx ht = means_keeps x t (act d a p) hx.1 ht ∙ act_keeps a p hx.0

edited_below : (m : ℕ) (g : Edit) (t : Tables) → EditBelow m g → TablesBelow m t → TablesBelow m (edited g t)
edited_below m (Replace n es) t hg ht i = cond_both (eqb i n) es (t i) (λ l. Every (EntryBelow m) l) (λ e. hg) (λ e. ht i)

edited_all_below : (m : ℕ) (gs : List Edit) (t : Tables) → Every (EditBelow m) gs → TablesBelow m t → TablesBelow m (edited_all gs t)
unfolding edited_all
edited_all_below m [] t hg ht = ht
edited_all_below m (g ∷ gs) t hg ht = edited_all_below m gs (edited g t) hg.1 (edited_below m g t hg.0 ht)

history_below : (m k : ℕ) (t : Tables) (es : List Event) → TablesBelow m t → Every (EventBelow m) es → TablesBelow m (history k t es).tables
unfolding history
history_below m k t [] ht he = ht
history_below m k t (Step a ∷ es) ht he = history_below m k t es ht he.1
history_below m k t (Update gs ∷ es) ht he =
    let before = history_below m k t es ht he.1 in
    elim (taken_now k (history k t es)) as (λ z. TablesBelow m (cond z
    (record { newest = suc (history k t es).newest; steps = (history k t es).steps; tables = edited_all gs (history k t es).tables })
    (history k t es)).tables) [
      | true ↦ edited_all_below m gs (history k t es).tables he.0 before
      | false ↦ before
    ]

pub untouched_fields : Untouched
untouched_fields m = record {
  untouched = λ d x t p f hx ht h. means_keeps m d f h x t p hx ht;
  stays = λ k t es ht he. history_below m k t es ht he;
}
