-- `block_costs::price_by_sums` meets its contract: both are proved. Assumes nothing.
use Rattle.block_costs.proofs.PartitionPrice.{price_is_01, sums_fit}
use Rattle.block_costs.proofs.price_by_sums.Goals as goal

pub returns : goal.returns
returns c = (price_is_01, sums_fit)
