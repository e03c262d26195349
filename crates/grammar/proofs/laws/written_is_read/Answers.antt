use Rattle.grammar.proofs.Written.{written_is_read}
use Rattle.grammar.proofs.laws.written_is_read.Goals as goal

pub returns : goal.returns
returns c = written_is_read
