-- Frames for which there was no memory.
use Rattle.std.specs.Prelude.{◌≡◌, ◌⊎◌, List, [], ◌∷◌}
use Rattle.stream.specs.Frames.{Frame, Source, Update, Packet, Pause, Unknown, Starved}

-- reading a source or an update takes memory; nothing else does
abbrev pub Allocates : Frame → Type 0
Allocates (Source body) = Unit {0}
Allocates (Update body) = Unit {0}
Allocates (Packet body) = ⊥
Allocates Pause = ⊥
Allocates Unknown = ⊥
Allocates Starved = ⊥

-- what was done about a frame: the frame itself, or that there was no memory for it
abbrev pub Done : Frame → Frame → Type 0
Done f g = (g ≡ f) ⊎ ((g ≡ Starved) × Allocates f)

abbrev pub AllDone : List Frame → List Frame → Type 0
AllDone [] [] = Unit {0}
AllDone [] (g ∷ gs) = ⊥
AllDone (f ∷ fs) [] = ⊥
AllDone (f ∷ fs) (g ∷ gs) = Done f g × AllDone fs gs
