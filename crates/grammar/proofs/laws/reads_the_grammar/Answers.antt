use Rattle.grammar.proofs.Reading.{reads_the_grammar}
use Rattle.grammar.proofs.laws.reads_the_grammar.Goals as goal

pub returns : goal.returns
returns c = reads_the_grammar
