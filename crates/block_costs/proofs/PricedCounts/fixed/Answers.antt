-- `PricedCounts::fixed`: four products of a price and the counts of two histograms (`four_products`).
use Rattle.std.proofs.Common.{arith}
use Rattle.model.specs.Histograms.{slot, position}
use Rattle.layout_search.proofs.PriceLaws.{product_is}
use Rattle.block_costs.specs.Terms.{fixed_of}
use Rattle.block_costs.proofs.TermLaws.{four_products}
use Rattle.block_costs.proofs.PricedCounts.fixed.Goals as goal

pub returns : goal.returns
unfolding fixed_of slot position
returns c =
    four_products _ _ _ _ _ _ _ _ (product_is _ _ _ _ _ c.product-reads.ensures.value (omega arith) (omega (arith, c.counts.ensures.value)))
    (product_is _ _ _ _ _ c.product-scans.ensures.value (omega arith) (omega (arith, c.counts-2.ensures.value)))
    (product_is _ _ _ _ _ c.product-writes.ensures.value (omega arith) (omega (arith, c.counts-3.ensures.value)))
    (product_is _ _ _ _ _ c.product-moves.ensures.value (omega arith) (omega (arith, c.counts-4.ensures.value)))
