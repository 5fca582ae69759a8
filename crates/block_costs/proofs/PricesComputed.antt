-- The examples of the price by the sums, each proved by computing. Assumes nothing.
use mathlib.Core.Path.{refl}
use Rattle.model.proofs.Computing.{computed}
use Rattle.layout_search.specs.Sums.{sum, upto, span}
use Rattle.layout_search.specs.RunningSums.{sum_at, adds_of, up_by, down_by}
use Rattle.block_costs.specs.Terms.{fixed_of, per_block_before_of, per_block_after_of, per_partition_added_of, per_partition_saved_of, term_of, running_sum}
use Rattle.block_costs.specs.Price.{price_by_sums, blocks_cost}
use Rattle.block_costs.specs.PriceExamples.{PriceExamples}

pub price_examples : PriceExamples
unfolding computed sum upto span sum_at adds_of up_by down_by price_by_sums fixed_of per_block_before_of per_block_after_of per_partition_added_of per_partition_saved_of
    term_of running_sum blocks_cost
price_examples = record {
  running = refl;
  one_end = refl;
  two_ends = refl;
  both = record { by_sums = refl; by_01 = refl };
  first = record { by_sums = refl; by_01 = refl };
  last = record { by_sums = refl; by_01 = refl };
}
