use Rattle.stream.proofs.AsMeant.{frames_as_meant}
use Rattle.stream.proofs.frames_as_meant.Goals as goal

pub returns : goal.returns
returns c = frames_as_meant
