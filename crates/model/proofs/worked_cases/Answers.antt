use Rattle.model.proofs.worked_cases.Goals as goal
use Rattle.model.proofs.Worked.{worked_cases}

pub returns : goal.returns
returns c = worked_cases
