use Rattle.model.proofs.placement_is_sound.Goals as goal
use Rattle.model.proofs.PlacementSound.{placement_is_sound}

pub returns : goal.returns
returns c = placement_is_sound
