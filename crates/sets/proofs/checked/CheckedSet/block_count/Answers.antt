-- `sets::CheckedSet::block_count` meets its contract: the quotient rounded up is computed as it is defined. Assumes nothing.
use Rattle.std.proofs.Common.{refl}
use Rattle.model.specs.Lists.{ceil_div}
use Rattle.sets.proofs.checked.CheckedSet.block_count.Goals as goal

pub returns : goal.returns
unfolding ceil_div
returns c = refl
