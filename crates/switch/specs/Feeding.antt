-- What is done about the bytes at hand, frame by frame.
use Rattle.std.specs.Prelude.{◌≡◌, ℕ, ◌+◌, ◌≤◌, Bool, true, false, List, [], ◌++◌, length, drop}
use Rattle.model.specs.Pipeline.{Pipeline}
use Rattle.stream.specs.Answering.{Mode, Unloaded, Running, Stopped, answers, behind}
use Rattle.stream.specs.Frames.{Frame, parts}
use Rattle.stream.specs.Machines.{pipeline}
use Rattle.switch.specs.Starving.{AllDone}

-- the first of the frames are done: the answers stand at the front of the output and all behind them is as it was; the frames of the bytes that were not used are still to come
pub record Fed (mode after : Mode (Pipeline Bool)) (bytes out out' : List ℕ) (used written : ℕ) : Type 0 where
  pub first : List Frame
  pub done : List Frame
  pub all_done : AllDone first done
  pub frames : (parts bytes).frames ≡ first ++ (parts (drop used bytes)).frames
  pub left : (parts bytes).left ≡ (parts (drop used bytes)).left
  pub wrote : out' ≡ answers pipeline mode done ++ drop written out
  pub count : written ≡ length (answers pipeline mode done)
  pub goes : after ≡ behind pipeline mode done

-- as long as the output has room for the longest answer, no whole frame is left undone
abbrev pub AllFrames : List ℕ → List ℕ → ℕ → ℕ → Type 0
AllFrames bytes out used written = written + 4102 ≤ length out → (parts (drop used bytes)).frames ≡ []

module _ {S : Type 0} where
  abbrev pub is_stopped : Mode S → Bool
  is_stopped Unloaded = false
  is_stopped (Running f s) = false
  is_stopped Stopped = true
