-- `PricedCounts::per_partition_saved`: a price times the sum of two counts.
use Rattle.std.proofs.Common.{arith}
use Rattle.model.specs.Histograms.{slot, position}
use Rattle.layout_search.proofs.PriceLaws.{product_is}
use Rattle.block_costs.specs.Terms.{per_partition_saved_of}
use Rattle.block_costs.proofs.PricedCounts.per_partition_saved.Goals as goal

pub returns : goal.returns
unfolding per_partition_saved_of slot position
returns c = product_is _ _ _ _ _ c.product.ensures.value (omega arith) (omega arith)
