-- `theorems::growers_agree` meets its contract: the proofs of the theorems, handed over. Assumes nothing.
use Rattle.theorems.proofs.NextGrower.{next_grower_agrees, next_grower_after-calls}
use Rattle.theorems.proofs.growers_agree.Goals as goal

pub returns : goal.returns
returns c = (next_grower_agrees, next_grower_after-calls)
