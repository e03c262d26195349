-- What is done about the front of the bytes at hand.
use Rattle.std.specs.Prelude.{◌≡◌, ℕ, ◌<◌, Bool, ◌⊎◌, List, [], ◌++◌, length, drop}
use Rattle.model.specs.Pipeline.{Pipeline}
use Rattle.stream.specs.Answering.{Mode, writes, next}
use Rattle.stream.specs.Frames.{Frame, behind_frame, parts}
use Rattle.stream.specs.Machines.{pipeline}
use Rattle.switch.specs.Starving.{Done}

-- no frame is whole, and nothing is done
pub record Waits (mode after : Mode (Pipeline Bool)) (bytes out out' : List ℕ) (used written : ℕ) : Type 0 where
  pub none : (parts bytes).frames ≡ []
  pub unused : used ≡ 0
  pub silent : written ≡ 0
  pub kept : out' ≡ out
  pub stays : after ≡ mode

-- the first frame is done: what it is answered stands at the front of the output, and all behind it is as it was
pub record Does (mode after : Mode (Pipeline Bool)) (bytes out out' : List ℕ) (used written : ℕ) : Type 0 where
  pub first : Frame
  pub frame : Frame
  pub done : Done first frame
  pub rest : parts bytes ≡ behind_frame first (parts (drop used bytes))
  pub some : 0 < used
  pub wrote : out' ≡ writes pipeline mode frame ++ drop written out
  pub count : written ≡ length (writes pipeline mode frame)
  pub goes : after ≡ next pipeline mode frame

abbrev pub Steps : Mode (Pipeline Bool) → Mode (Pipeline Bool) → List ℕ → List ℕ → List ℕ → ℕ → ℕ → Type 0
Steps mode after bytes out out' used written = Waits mode after bytes out out' used written ⊎ Does mode after bytes out out' used written
