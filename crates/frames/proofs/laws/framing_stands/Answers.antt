use Rattle.frames.proofs.Spelling.{framing}
use Rattle.frames.proofs.laws.framing_stands.Goals as goal

pub returns : goal.returns
returns c = framing
