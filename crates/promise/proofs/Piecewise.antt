-- An input in pieces.
use Rattle.std.proofs.Common.{◌≡◌, ℕ, zero, suc, ◌<◌, ◌≤◌, Bool, true, false, ltb, List, [], ◌∷◌, ◌++◌, length, take, drop, sym, refl, ap, ◌∙◌, subst, arith}
use Rattle.std.proofs.lemmas.List.{append_assoc, append-nil}
use Rattle.frames.specs.Reading as reading
use Rattle.frames.specs.declared.kind.Kind.{Kind}
use Rattle.frames.specs.declared.opening.Opening.{Opening}
use Rattle.frames.specs.declared.opening.Opening.TheVariants as opening
use Rattle.frames.specs.Reading.{read, number, length_bytes, behind_length, behind_kind, opens, opened}
use Rattle.std.proofs.lemmas.Bool.{false≢true, cond_both}
use Rattle.frames.proofs.Lasts.{lasting}
use Rattle.frames.specs.Laws.{Followed}
use Rattle.frames.proofs.Parts.{whole_size}
use Rattle.stream.specs.Answering.{Mode, Unloaded, Running, Stopped, writes, next, answers, behind}
use Rattle.stream.specs.Frames as frames
use Rattle.stream.specs.Frames.{Frame, Parts, framed, behind_frame, nothing_whole, on_front, parts, parts_within}
use Rattle.stream.specs.Machine.{Machine}
use Rattle.stream.specs.Whole.{last_words}
use Rattle.stream.proofs.Parting.{parts_front, pause_size}
use Rattle.promise.specs.Pieces.{InPieces, NothingWhole}

abbrev is_none : List Frame → Bool
is_none [] = true
is_none (f ∷ fs) = false

abbrev is_empty : reading.Read → Bool
is_empty reading.Empty = true
is_empty (reading.Pause rest) = false
is_empty (reading.Whole k body rest) = false
is_empty (reading.Cut k) = false
is_empty reading.Unknown = false

not_empty : (k : Kind) (bs : List ℕ) → is_empty (behind_kind k bs) ≡ false
not_empty k bs =
    let n = number (take (length_bytes k) bs) in
    let d = drop (length_bytes k) bs in
    cond_both (ltb (length bs) (length_bytes k)) (reading.Cut k) (behind_length k n d) (λ (r : reading.Read). is_empty r ≡ false) (λ _. refl)
    (λ _. cond_both (ltb (length d) n) (reading.Cut k) (reading.Whole k (take n d) (drop n d)) (λ (r : reading.Read). is_empty r ≡ false) (λ _. refl) (λ _. refl))

opened_empty : (o : Opening) (bs : List ℕ) → is_empty (opened o bs) ≡ false
opened_empty (opening.Framed k) bs = not_empty k bs
opened_empty opening.Pause bs = refl
opened_empty opening.Unknown bs = refl

-- only no bytes are nothing
empty_is : (bs : List ℕ) → read bs ≡ reading.Empty → bs ≡ []
empty_is [] e = refl
empty_is (b ∷ bs) e = absurd (false≢true (sym (opened_empty (opens b) bs) ∙ ap is_empty e))

module _ {S : Type 0} (m : Machine S) where
  silent : (fs : List Frame) → answers m Stopped fs ≡ []
  unfolding answers
  silent [] = refl
  silent (f ∷ fs) = silent fs

  stays : (fs : List Frame) → behind m Stopped fs ≡ Stopped
  unfolding behind
  stays [] = refl
  stays (f ∷ fs) = stays fs

  stopped_by : (a : Mode S) → next m a frames.Unknown ≡ Stopped
  stopped_by Unloaded = refl
  stopped_by (Running f s) = refl
  stopped_by Stopped = refl

  -- the parts of all, and of the second piece behind what is left of the first
  abbrev Pieces : Mode S → Parts → Parts → (List ℕ → Parts) → Type 0
  Pieces mode all first second = (answers m mode all.frames ≡ answers m mode first.frames ++ answers m (behind m mode first.frames) (second first.left).frames)
      × (behind m mode all.frames ≡ behind m (behind m mode first.frames) (second first.left).frames)
      × (last_words (behind m mode all.frames) all.left ≡ last_words (behind m mode all.frames) (second first.left).left)

  one_more : (mode : Mode S) (f : Frame) (all first : Parts) (second : List ℕ → Parts) → Pieces (next m mode f) all first second → Pieces mode (behind_frame f all) (behind_frame f first) second
  unfolding answers behind
  one_more mode f all first second p = (
    ap (λ (l : List ℕ). writes m mode f ++ l) p.0
        ∙ sym (append_assoc (writes m mode f) (answers m (next m mode f) first.frames) (answers m (behind m (next m mode f) first.frames) (second first.left).frames)),
    p.1,
    p.2,
  )

  stop_here : (mode : Mode S) (second : List ℕ → Parts) → Pieces mode (behind_frame frames.Unknown (nothing_whole [])) (behind_frame frames.Unknown (nothing_whole [])) second
  unfolding answers behind
  stop_here mode second =
      let s = stopped_by mode in
      let w : List ℕ = writes m mode frames.Unknown ++ [] in (
        sym (append-nil w) ∙ ap (λ (l : List ℕ). w ++ l) (sym (ap (λ (a : Mode S). answers m a (second []).frames) s ∙ silent (second []).frames)),
        s ∙ sym (ap (λ (a : Mode S). behind m a (second []).frames) s ∙ stays (second []).frames),
        ap (λ (a : Mode S). last_words a []) s ∙ sym (ap (λ (a : Mode S). last_words a (second []).left) s),
      )

  module _ (b : List ℕ) where
    abbrev rest : List ℕ → Parts
    rest left = parts (left ++ b)

    at_front : (n : ℕ) (mode : Mode S) (a : List ℕ) (r : reading.Read) → read a ≡ r → Followed r b (read (a ++ b)) →
        ((mode : Mode S) (c : List ℕ) → length c < length a → Pieces mode (parts (c ++ b)) (parts c) rest) → Pieces mode (parts (a ++ b)) (parts a) rest
    unfolding answers behind parts_within
    at_front n mode a reading.Empty e f more =
        let at_once : Pieces mode (parts b) (parts []) rest = (refl, refl, refl) in
        subst (λ (x : List ℕ). Pieces mode (parts (x ++ b)) (parts x) rest) (sym (empty_is a e)) at_once
    at_front n mode a (reading.Pause c) e f more =
        rw (parts_front a (reading.Pause c) e, parts_front (a ++ b) (reading.Pause (c ++ b)) f) (one_more mode frames.Pause (parts (c ++ b)) (parts c) rest (more (next m mode frames.Pause) c (omega (arith, pause_size a c e))))
    at_front n mode a (reading.Whole k body c) e f more =
        rw (parts_front a (reading.Whole k body c) e, parts_front (a ++ b) (reading.Whole k body (c ++ b)) f)
        (one_more mode (framed k body) (parts (c ++ b)) (parts c) rest (more (next m mode (framed k body)) c (omega (arith, whole_size a k body c e))))
    at_front n mode a (reading.Cut k) e f more = rw (parts_front a (reading.Cut k) e) (refl, refl, refl)
    at_front n mode a reading.Unknown e f more = rw (parts_front a reading.Unknown e, parts_front (a ++ b) reading.Unknown f) (stop_here mode rest)

    pieces_within : (n : ℕ) (mode : Mode S) (a : List ℕ) → length a ≤ n → Pieces mode (parts (a ++ b)) (parts a) rest
    pieces_within zero mode a h = at_front zero mode a (read a) refl (lasting a b) (λ k c l. absurd (omega (arith, h, l)))
    pieces_within (suc n) mode a h = at_front n mode a (read a) refl (lasting a b) (λ k c l. pieces_within n k c (omega (arith, h, l)))

  pub in_pieces : (mode : Mode S) (a b : List ℕ) → InPieces S m mode a b
  in_pieces mode a b =
      let p = pieces_within b (length a) mode a (omega arith) in
      record { writes = p.0; goes = p.1; ends = p.2 }

none_whole : (bs : List ℕ) (r : reading.Read) → read bs ≡ r → (on_front bs parts r).frames ≡ [] → (on_front bs parts r).left ≡ bs
none_whole bs reading.Empty e h = sym (empty_is bs e)
none_whole bs (reading.Pause behind-it) e h = absurd (false≢true (ap is_none h))
none_whole bs (reading.Whole k body behind-it) e h = absurd (false≢true (ap is_none h))
none_whole bs (reading.Cut k) e h = refl
none_whole bs reading.Unknown e h = absurd (false≢true (ap is_none h))

pub nothing_whole_lem : NothingWhole
nothing_whole_lem bs e = ap (λ (p : Parts). p.left) (parts_front bs (read bs) refl) ∙ none_whole bs (read bs) refl (sym (ap (λ (p : Parts). p.frames) (parts_front bs (read bs) refl)) ∙ e)
