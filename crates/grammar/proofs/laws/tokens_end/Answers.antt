use Rattle.grammar.proofs.TokensEnd.{tokens_end}
use Rattle.grammar.proofs.laws.tokens_end.Goals as goal

pub returns : goal.returns
returns c = tokens_end
