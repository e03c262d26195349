use Rattle.encoding.proofs.OneEncoding.{one_encoding}
use Rattle.encoding.proofs.laws.one_encoding.Goals as goal

pub returns : goal.returns
returns c = one_encoding
