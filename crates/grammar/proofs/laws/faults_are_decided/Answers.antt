use Rattle.grammar.proofs.Deciding.{faults_are_decided}
use Rattle.grammar.proofs.laws.faults_are_decided.Goals as goal

pub returns : goal.returns
returns c = faults_are_decided
