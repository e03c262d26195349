use Rattle.encoding.proofs.OnlyBytes.{only_bytes}
use Rattle.encoding.proofs.laws.only_bytes.Goals as goal

pub returns : goal.returns
returns c = only_bytes
