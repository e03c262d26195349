use Rattle.model.proofs.rows_unfold.Goals as goal
use Rattle.model.proofs.RowsUnfold.{rows_unfold}

pub returns : goal.returns
returns c = rows_unfold
