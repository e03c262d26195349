use Rattle.promise.proofs.Undisturbed.{others_undisturbed}
use Rattle.promise.proofs.others_undisturbed.Goals as goal

pub returns : goal.returns
returns c = others_undisturbed
