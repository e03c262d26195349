-- The frame at the front, over plain values.
use Rattle.std.proofs.Common.{◌≡◌, ℕ, ◌+◌, ◌-◌, ◌<◌, ◌≤◌, Bool, List, [], ◌∷◌, ◌++◌, length, take, drop, sym, refl, ap, ap₂, ◌∙◌, inl, inr, arith}
use Rattle.std.proofs.lemmas.List.{append_assoc, length-append, length-drop, drop_all, drop-append-le, take-append-drop}
use Rattle.model.specs.Pipeline.{Pipeline}
use Rattle.frames.specs.declared.kind.Kind.{Kind}
use Rattle.frames.specs.Reading as reading
use Rattle.frames.specs.Reading.{read, size}
use Rattle.frames.proofs.Parts.{whole_size}
use Rattle.stream.specs.Answering.{Mode, writes, next}
use Rattle.stream.specs.Frames.{Frame, Pause, Unknown, Parts, framed, behind_frame, parts, parts_within}
use Rattle.stream.specs.Machines.{pipeline}
use Rattle.stream.proofs.Parting.{parts_front, pause_size, pause_left, whole_left}
use Rattle.switch.specs.Starving.{Done}
use Rattle.switch.specs.Stepping.{Steps}

pub empty_waits : (mode : Mode (Pipeline Bool)) (bytes out : List ℕ) → read bytes ≡ reading.Empty → Steps mode mode bytes out out 0 0
empty_waits mode bytes out e = inl (record { none = ap (λ (p : Parts). p.frames) (parts_front bytes reading.Empty e); unused = refl; silent = refl; kept = refl; stays = refl })

pub cut_waits : (mode : Mode (Pipeline Bool)) (k : Kind) (bytes out : List ℕ) → read bytes ≡ reading.Cut k → Steps mode mode bytes out out 0 0
cut_waits mode k bytes out e = inl (record { none = ap (λ (p : Parts). p.frames) (parts_front bytes (reading.Cut k) e); unused = refl; silent = refl; kept = refl; stays = refl })

-- as many bytes were written as there are
counted : (w out out' : List ℕ) (written : ℕ) → out' ≡ w ++ drop written out → length out' ≡ length out → written ≤ length out → written ≡ length w
counted w out out' written is same within =
    let n : length out' ≡ length w + length (drop written out) = ap length is ∙ length-append w (drop written out) in
    omega (arith, n, length-drop written out, same, within)

-- a part in front was lent, and is back
pub wider : (mode after : Mode (Pipeline Bool)) (bytes out room rest part : List ℕ) (n used written : ℕ) → room ≡ take n out → rest ≡ drop n out → written ≤ length room →
    Steps mode after bytes room part used written → Steps mode after bytes out (part ++ rest) used written
wider mode after bytes out room rest part n used written is behind within (inl waits) =
    inl (record {
      none = waits.none;
      unused = waits.unused;
      silent = waits.silent;
      kept = ap₂ (λ (l m : List ℕ). l ++ m) (waits.kept ∙ is) behind ∙ take-append-drop n out;
      stays = waits.stays;
    })
wider mode after bytes out room rest part n used written is behind within (inr does) =
    let w : List ℕ = writes pipeline mode does.frame in
    let all : room ++ rest ≡ out = ap₂ (λ (l m : List ℕ). l ++ m) is behind ∙ take-append-drop n out in
    inr (record {
      first = does.first;
      frame = does.frame;
      done = does.done;
      rest = does.rest;
      some = does.some;
      wrote = ap (λ (l : List ℕ). l ++ rest) does.wrote
          ∙ (append_assoc w (drop written room) rest
          ∙ ap (λ (l : List ℕ). w ++ l) (sym (drop-append-le written room rest within) ∙ ap (drop written) all));
      count = does.count;
      goes = does.goes;
    })

module _ (mode after : Mode (Pipeline Bool)) (bytes out out' : List ℕ) (written : ℕ) (same : length out' ≡ length out) (within : written ≤ length out) where
  frame_does : (used : ℕ) (f g : Frame) (rest : List ℕ) → Done f g → parts bytes ≡ behind_frame f (parts rest) → rest ≡ drop used bytes → 0 < used →
      out' ≡ writes pipeline mode g ++ drop written out → after ≡ next pipeline mode g → Steps mode after bytes out out' used written
  frame_does used f g rest done is left some wrote goes =
      inr (record {
        first = f;
        frame = g;
        done = done;
        rest = is ∙ ap (λ (l : List ℕ). behind_frame f (parts l)) left;
        some = some;
        wrote = wrote;
        count = counted (writes pipeline mode g) out out' written wrote same within;
        goes = goes;
      })

  pub pause_does : (rest : List ℕ) → read bytes ≡ reading.Pause rest → out' ≡ writes pipeline mode Pause ++ drop written out → after ≡ next pipeline mode Pause →
      Steps mode after bytes out out' (length bytes - length rest) written
  pause_does rest e wrote goes =
      frame_does (length bytes - length rest) Pause Pause rest (inl refl) (parts_front bytes (reading.Pause rest) e) (pause_left bytes rest e) (omega (arith, pause_size bytes rest e)) wrote goes

  pub whole_does : (k : Kind) (body rest : List ℕ) → read bytes ≡ reading.Whole k body rest →
      (g : Frame) × Done (framed k body) g × (out' ≡ writes pipeline mode g ++ drop written out) × (after ≡ next pipeline mode g) →
      Steps mode after bytes out out' (length bytes - length rest) written
  whole_does k body rest e does =
      frame_does (length bytes - length rest) (framed k body) does.0 rest does.1 (parts_front bytes (reading.Whole k body rest) e) (whole_left bytes k body rest e)
      (omega (arith, whole_size bytes k body rest e)) does.2 does.3

  pub unknown_does : read bytes ≡ reading.Unknown → out' ≡ writes pipeline mode Unknown ++ drop written out → after ≡ next pipeline mode Unknown →
      Steps mode after bytes out out' (length bytes) written
  unfolding parts_within
  unknown_does e wrote goes =
      frame_does (length bytes) Unknown Unknown [] (inl refl) (parts_front bytes reading.Unknown e) (sym (drop_all (length bytes) bytes (omega arith))) (some_byte bytes e) wrote goes
    where
      some_byte : (bs : List ℕ) → read bs ≡ reading.Unknown → 0 < length bs
      some_byte [] u = let z : ◌≡◌ {A = ℕ} 0 1 = cc in absurd (omega arith)
      some_byte (b ∷ bs) u = omega arith
