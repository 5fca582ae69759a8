-- `theorems::limits_kept` meets its contract: the proofs of the theorems, handed over. Assumes nothing.
use Rattle.theorems.proofs.Limits.{limits_kept, own_limits_kept}
use Rattle.theorems.proofs.limits_kept.Goals as goal

pub returns : goal.returns
returns c = (limits_kept, own_limits_kept)
