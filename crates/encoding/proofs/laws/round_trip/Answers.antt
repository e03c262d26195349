use Rattle.encoding.proofs.Reading.{round_trip}
use Rattle.encoding.proofs.laws.round_trip.Goals as goal

pub returns : goal.returns
returns c = round_trip
