use Rattle.model.proofs.untouched.Goals as goal
use Rattle.model.proofs.UntouchedFields.{untouched_fields}

pub returns : goal.returns
returns c = untouched_fields
