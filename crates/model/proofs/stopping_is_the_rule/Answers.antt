use Rattle.model.proofs.stopping_is_the_rule.Goals as goal
use Rattle.model.proofs.Stops.{stopping_is_the_rule}

pub returns : goal.returns
returns c = stopping_is_the_rule
