use Rattle.model.proofs.blocks_mean.Goals as goal
use Rattle.model.proofs.BlocksMean.{blocks_mean}

pub returns : goal.returns
returns c = blocks_mean
