-- One frame after another, over plain values.
use Rattle.std.proofs.Common.{◌≡◌, ℕ, zero, suc, ◌+◌, ◌-◌, ◌<◌, Bool, List, [], ◌∷◌, ◌++◌, length, take, drop, sym, refl, ap, ◌∙◌, inl, inr, arith}
use borrow.Rule.Slice.PartMut.{put_mid}
use Rattle.std.proofs.lemmas.List.{append_assoc, append-nil, length-append, length-drop, drop_all, drop-drop, take-append-drop, take_rest}
use Rattle.model.specs.Pipeline.{Pipeline}
use Rattle.stream.specs.Answering.{Mode, writes, next, answers, behind}
use Rattle.stream.specs.Frames.{Frame, Parts, parts}
use Rattle.stream.specs.Machine.{Machine}
use Rattle.stream.specs.Machines.{pipeline}
use Rattle.switch.specs.Starving.{Done, AllDone}
use Rattle.switch.specs.Stepping.{Does, Steps}
use Rattle.switch.specs.Feeding.{Fed}
use Rattle.switch.proofs.Serves.{written_behind}

module _ {S : Type 0} (m : Machine S) where
  pub answers_push : (fs : List Frame) (a : Mode S) (f : Frame) → answers m a (fs ++ (f ∷ [])) ≡ answers m a fs ++ writes m (behind m a fs) f
  unfolding answers behind
  answers_push [] a f = append-nil (writes m a f)
  answers_push (g ∷ fs) a f = ap (λ (l : List ℕ). writes m a g ++ l) (answers_push fs (next m a g) f) ∙ sym (append_assoc (writes m a g) (answers m (next m a g) fs) (writes m (behind m (next m a g) fs) f))

  pub behind_push : (fs : List Frame) (a : Mode S) (f : Frame) → behind m a (fs ++ (f ∷ [])) ≡ next m (behind m a fs) f
  unfolding behind
  behind_push [] a f = refl
  behind_push (g ∷ fs) a f = behind_push fs (next m a g) f

pub positive : (n : ℕ) → (n ≡ 0 → ⊥) → 0 < n
positive zero h = absurd (h refl)
positive (suc n) h = omega arith

done_push : (fs gs : List Frame) (f g : Frame) → AllDone fs gs → Done f g → AllDone (fs ++ (f ∷ [])) (gs ++ (g ∷ []))
done_push [] [] f g all d = (d, tt)
done_push [] (y ∷ gs) f g all d = absurd all
done_push (x ∷ fs) [] f g all d = absurd all
done_push (x ∷ fs) (y ∷ gs) f g all d = (all.0, done_push fs gs f g all.1 d)

-- before the first frame
pub fed_none : (mode : Mode (Pipeline Bool)) (bytes out : List ℕ) → Fed mode mode bytes out out 0 0
unfolding answers behind
fed_none mode bytes out = record { first = []; done = []; all_done = tt; frames = refl; left = refl; wrote = refl; count = refl; goes = refl }

-- one frame more
pub fed_more : (mode mid after : Mode (Pipeline Bool)) (bytes out before part : List ℕ) (used written u w : ℕ) → Fed mode mid bytes out before used written →
    Does mid after (drop used bytes) (drop written before) part u w → Fed mode after bytes out (put_mid written (length before - written) before part) (used + u) (written + w)
fed_more mode mid after bytes out before part used written u w fed does =
    let again : drop u (drop used bytes) ≡ drop (used + u) bytes = drop-drop u used bytes in
    let here : writes pipeline mid does.frame ≡ writes pipeline (behind pipeline mode fed.done) does.frame = ap (λ (a : Mode (Pipeline Bool)). writes pipeline a does.frame) fed.goes in
    let both : answers pipeline mode fed.done ++ writes pipeline mid does.frame ≡ answers pipeline mode (fed.done ++ (does.frame ∷ [])) =
    ap (λ (l : List ℕ). answers pipeline mode fed.done ++ l) here ∙ sym (answers_push pipeline fed.done mode does.frame) in
    let n : length (answers pipeline mode fed.done ++ writes pipeline mid does.frame) ≡ length (answers pipeline mode fed.done) + length (writes pipeline mid does.frame) =
    length-append (answers pipeline mode fed.done) (writes pipeline mid does.frame) in
    record {
      first = fed.first ++ (does.first ∷ []);
      done = fed.done ++ (does.frame ∷ []);
      all_done = done_push fed.first fed.done does.first does.frame fed.all_done does.done;
      frames = fed.frames
          ∙ (ap (λ (p : Parts). fed.first ++ p.frames) does.rest
          ∙ (sym (append_assoc fed.first (does.first ∷ []) (parts (drop u (drop used bytes))).frames)
          ∙ ap (λ (l : List ℕ). (fed.first ++ (does.first ∷ [])) ++ (parts l).frames) again));
      left = fed.left ∙ (ap (λ (p : Parts). p.left) does.rest ∙ ap (λ (l : List ℕ). (parts l).left) again);
      wrote = written_behind (answers pipeline mode fed.done) (writes pipeline mid does.frame) out before part written w fed.count fed.wrote does.wrote
          ∙ ap (λ (l : List ℕ). l ++ drop (written + w) out) both;
      count = omega (arith, fed.count, does.count, n) ∙ ap length both;
      goes = does.goes ∙ (ap (λ (a : Mode (Pipeline Bool)). next pipeline a does.frame) fed.goes ∙ sym (behind_push pipeline fed.done mode does.frame));
    }

-- the part that was lent and is back as it was
same_back : (before part : List ℕ) (written : ℕ) → part ≡ drop written before → put_mid written (length before - written) before part ≡ before
same_back before part written is =
    let gone : drop (length before - written) (drop written before) ≡ [] = drop_all (length before - written) (drop written before) (omega (arith, length-drop written before)) in
    (λ i. take written before ++ (is i ++ gone i))
    ∙ (ap (λ (l : List ℕ). take written before ++ l) (append-nil (drop written before)) ∙ take-append-drop written before)

module _ (mode mid after : Mode (Pipeline Bool)) (bytes out before part : List ℕ) (used written u w : ℕ) (fed : Fed mode mid bytes out before used written)
    (steps : Steps mid after (take (length bytes - used) (drop used bytes)) (take (length before - written) (drop written before)) part u w) where
  whole_steps : Steps mid after (drop used bytes) (drop written before) part u w
  whole_steps = rw (take_rest bytes used, take_rest before written) at steps

  pub fed_step : 0 < u → Fed mode after bytes out (put_mid written (length before - written) before part) (used + u) (written + w)
  fed_step some = elim whole_steps [
    | inl waits ↦ absurd (omega (arith, some, waits.unused))
    | inr does ↦ fed_more mode mid after bytes out before part used written u w fed does
  ]

  pub fed_wait : u ≡ 0 → Fed mode after bytes out (put_mid written (length before - written) before part) used written × ((parts (drop used bytes)).frames ≡ [])
  fed_wait none = elim whole_steps [
    | inl waits ↦ (rw (waits.stays, same_back before part written waits.kept) fed, waits.none)
    | inr does ↦ absurd (omega (arith, none, does.some))
  ]
