use Rattle.grammar.proofs.Read.{read_is_written}
use Rattle.grammar.proofs.laws.read_is_written.Goals as goal

pub returns : goal.returns
returns c = read_is_written
