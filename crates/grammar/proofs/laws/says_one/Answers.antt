use Rattle.grammar.proofs.Written.{says_one}
use Rattle.grammar.proofs.laws.says_one.Goals as goal

pub returns : goal.returns
returns c = says_one
