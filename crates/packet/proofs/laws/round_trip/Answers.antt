use Rattle.packet.proofs.Trip.{round_trip}
use Rattle.packet.proofs.laws.round_trip.Goals as goal

pub returns : goal.returns
returns c = round_trip
