-- A source is read as a program if and only if the grammar says so.
use Rattle.token.specs.Tokens.{tokens}
use Rattle.grammar.specs.Laws.{ReadsTheGrammar}
use Rattle.grammar.proofs.Written.{written_is_read}
use Rattle.grammar.proofs.Read.{read_is_written}
use Rattle.grammar.proofs.TokensEnd.{tokens_end}

pub reads_the_grammar : ReadsTheGrammar
reads_the_grammar source d = (read_is_written (tokens source) d (tokens_end source), written_is_read (tokens source) d)
