-- The price by the sums, computed: two blocks under the factory card. Block 0 has a find and an insert, block 1 two finds and the ends of three moves forward.
use Rattle.std.specs.Prelude.{ℕ, ◌≡◌, ℤ, pos, neg_ℤ}
use mathlib.Core.List.{List, [], ◌∷◌, map, flatten}
use Rattle.std.proofs.Math.IntN.{sub_ℕ}
use Rattle.model.specs.Lists.{up_from}
use Rattle.model.specs.Prices.{factory}
use Rattle.layout_search.specs.RunningSums.{sums_per_place, up_by, down_by}
use Rattle.block_costs.specs.Terms.{running_sum}
use Rattle.block_costs.specs.Price.{price_by_sums, blocks_cost}

-- a block limit of 2: ten histograms of two counts, pq 1 and 2, in 1 and 0, utf 0 and 3
abbrev counts : List ℕ
counts = 1 ∷ 2 ∷ 0 ∷ 0 ∷ 0 ∷ 0 ∷ 0 ∷ 0 ∷ 0 ∷ 0 ∷ 1 ∷ 0 ∷ 0 ∷ 0 ∷ 0 ∷ 3 ∷ 0 ∷ 0 ∷ 0 ∷ 0 ∷ []

-- the sums at places 0, 1 and 2
abbrev sums : List ℕ
sums = 0 ∷ 0 ∷ 0 ∷ 0 ∷ 0 ∷ 0 ∷ 0 ∷ 8 ∷ 1 ∷ 0 ∷ 1 ∷ 0 ∷ 5 ∷ 0 ∷ 14 ∷ 3 ∷ 2 ∷ 3 ∷ 2 ∷ 5 ∷ 15 ∷ []

-- the blocks a to e in a layout, with k partitions from theirs to the last, cost z by the sums and by 01
pub record CostsBothWays (ends : List ℕ) (a e k : ℕ) (z : ℤ) : Type 0 where
  pub by_sums : price_by_sums sums a e k ≡ z
  pub by_01 : blocks_cost 2 factory ends counts a e ≡ z

pub record PriceExamples : Type 0 where
  pub running : flatten (map (λ (j : ℕ). map (λ (q : ℕ). running_sum 2 factory counts q j) (up_from 0 sums_per_place)) (up_from 0 3)) ≡ sums
  -- the layouts of one partition and of two, end by end
  pub one_end : sub_ℕ (up_by sums 0 (1 ∷ [])) (down_by sums (1 ∷ [])) ≡ pos 7
  pub two_ends : sub_ℕ (up_by sums 0 (0 ∷ 1 ∷ [])) (down_by sums (0 ∷ 1 ∷ [])) ≡ pos 9
  -- both blocks in one partition; the first alone, with one behind; the last alone, which is below 0
  pub both : CostsBothWays (1 ∷ []) 0 1 1 (pos 7)
  pub first : CostsBothWays (0 ∷ 1 ∷ []) 0 0 2 (pos 18)
  pub last : CostsBothWays (0 ∷ 1 ∷ []) 1 1 1 (neg_ℤ (pos 9))
