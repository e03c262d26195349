-- The theorem of the whole.
use Rattle.std.proofs.Common.{◌≡◌, ℕ, Bool, List, [], ◌∷◌, ◌++◌, refl, ap₂}
use Rattle.model.specs.Pipeline.{Pipeline}
use Rattle.stream.specs.Frames.{Frame, parts}
use Rattle.stream.specs.Answering.{Mode, Unloaded, next, answers, behind}
use Rattle.stream.specs.Machines.{pipeline, Past, twelve_later}
use Rattle.stream.specs.Whole.{ServedAsMeant, FramesAsMeant, last_words}
use Rattle.stream.proofs.Same.{Same, unloaded, running, stopped, next_same, writes_same}

pub answers_same : (fs : List Frame) (a : Mode (Pipeline Bool)) (b : Mode Past) → Same a b → answers pipeline a fs ≡ answers twelve_later b fs
unfolding answers
answers_same [] a b s = refl
answers_same (f ∷ fs) a b s =
    ap₂ (λ (xs ys : List ℕ). xs ++ ys) (writes_same s f) (answers_same fs (next pipeline a f) (next twelve_later b f) (next_same s f))

pub behind_same : (fs : List Frame) (a : Mode (Pipeline Bool)) (b : Mode Past) → Same a b → Same (behind pipeline a fs) (behind twelve_later b fs)
unfolding behind
behind_same [] a b s = s
behind_same (f ∷ fs) a b s = behind_same fs (next pipeline a f) (next twelve_later b f) (next_same s f)

last_same : {a : Mode (Pipeline Bool)} {b : Mode Past} → Same a b → (bs : List ℕ) → last_words a bs ≡ last_words b bs
last_same unloaded bs = refl
last_same (running p ns lays es) bs = refl
last_same stopped bs = refl

pub frames_as_meant : FramesAsMeant
frames_as_meant fs = answers_same fs Unloaded Unloaded unloaded

pub served_as_meant : ServedAsMeant
served_as_meant input =
    ap₂ (λ (xs ys : List ℕ). xs ++ ys) (answers_same (parts input).frames Unloaded Unloaded unloaded)
    (last_same (behind_same (parts input).frames Unloaded Unloaded unloaded) (parts input).left)
