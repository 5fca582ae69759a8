-- `PricedCounts::per_block_before`: a price times the sum of five counts.
use Rattle.std.proofs.Common.{arith}
use Rattle.model.specs.Histograms.{slot, position}
use Rattle.layout_search.proofs.PriceLaws.{product_is}
use Rattle.block_costs.specs.Terms.{per_block_before_of}
use Rattle.block_costs.proofs.PricedCounts.per_block_before.Goals as goal

pub returns : goal.returns
unfolding per_block_before_of slot position
returns c = product_is _ _ _ _ _ c.product.ensures.value (omega arith) (omega arith)
