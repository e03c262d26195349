use Rattle.frames.proofs.Spelling.{round_trip}
use Rattle.frames.proofs.laws.round_trip_stands.Goals as goal

pub returns : goal.returns
returns c = round_trip
