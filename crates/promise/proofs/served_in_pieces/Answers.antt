use Rattle.stream.specs.Machines.{pipeline, twelve_later}
use Rattle.promise.proofs.Piecewise.{in_pieces, nothing_whole_lem}
use Rattle.promise.proofs.served_in_pieces.Goals as goal

pub returns : goal.returns
returns c = record { pieces = (in_pieces pipeline, in_pieces twelve_later); left = nothing_whole_lem }
