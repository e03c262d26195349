use Rattle.source.proofs.Deciding.{faults_are_decided}
use Rattle.source.proofs.laws.faults_are_decided.Goals as goal

pub returns : goal.returns
returns c = faults_are_decided
