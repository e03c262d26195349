use Rattle.grammar.proofs.Deciding.{refused_alike}
use Rattle.grammar.proofs.laws.refused_alike.Goals as goal

pub returns : goal.returns
returns c = refused_alike
