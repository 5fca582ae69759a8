-- 02, Slip 5: "That this price is 01's for those blocks, at every count of partitions behind, is shown on its own."
use Rattle.std.specs.Prelude.{ℕ, ◌+◌, ◌-◌, ◌*◌, ◌^◌, ◌≤◌, ◌≡◌, List, ◌∷◌, ◌++◌, T, length, ℤ, pos, ◌*ℤ◌}
use Rattle.std.proofs.Math.IntN.{sub_ℕ}
use Rattle.model.specs.declared.PriceCard.{PriceCard}
use Rattle.model.specs.Prices.{prices_ok}
use Rattle.model.specs.Histograms.{Histogram, histograms, at, count, counts_ok}
use Rattle.model.specs.Cost.{price, sum_blocks, sum_histograms}
use Rattle.layout_search.specs.Task.{search_limit, Covers}
use Rattle.layout_search.specs.RunningSums.{sums_per_place, fixed, per_block_before, weighted_before, per_block_after, weighted_after, per_partition_added, per_partition_saved}
use Rattle.layout_search.specs.RunningSums.{sum_over, Priced}
use Rattle.block_costs.specs.Terms.{running_sum, Summed}

-- The price of the blocks a to e as a partition, with k partitions from it to the last: seven differences of sums, no loop over the blocks.
-- Block i has i - a blocks before it and e - i after it: the weighted sums are i's part of that, the others times a and times e the rest.
unfoldable pub price_by_sums : List ℕ → ℕ → ℕ → ℕ → ℤ
price_by_sums sums a e k =
    let over : ℕ → ℕ = λ q. sum_over sums q a e in
    sub_ℕ (over fixed + over weighted_before + over per_block_after * e + over per_partition_added * k) (over per_block_before * a + over weighted_after + over per_partition_saved * k)

-- 01's bill of the blocks a to e alone, in the layout with these ends: "count times price", over the ten histograms
unfoldable pub blocks_cost : ℕ → PriceCard → List ℕ → List ℕ → ℕ → ℕ → ℤ
blocks_cost L c ends hs a e =
    sum_blocks (e + 1 - a) (λ (i : ℕ). sum_histograms histograms (λ (h : Histogram). price c ends h (a + i) *ℤ pos (count L hs (at h (a + i)))))

-- For every block limit, price card and histograms, and every layout of n blocks cut at a partition of it: the ends ahead, its own end e, and the ends
-- behind, so that it is the blocks a to e with `length behind + 1` partitions from it to the last. The price by the sums is 01's, and so is the
-- number that the search has for it, less 2 ^ 60. Checks 1 and 9 are not needed for this, only for the sums to fit.
abbrev pub PriceIs01 : Type 0
PriceIs01 =
    (L : ℕ) (c : PriceCard) (hs sums ahead behind : List ℕ) (n a e : ℕ) → Summed L c hs ((n + 1) * sums_per_place) sums → Covers a 0 ahead → Covers n a (e ∷ behind)
    → (price_by_sums sums a e (length behind + 1) ≡ blocks_cost L c (ahead ++ e ∷ behind) hs a e)
    × ((r : ℕ) → Priced sums a e (length behind + 1) r → sub_ℕ r (2 ^ 60) ≡ blocks_cost L c (ahead ++ e ∷ behind) hs a e)

-- The bound: with prices that pass 1 and histograms that pass 9, under any block limit L, each of the seven sums is at most 2 ^ 49 up to block 256.
-- So in the search a sum times a count of blocks or partitions is at most 2 ^ 57, a local price lies within 2 ^ 58 of 2 ^ 60, and what is compared,
-- a tail (at most 2 ^ 62) and a local price, is at most 2 ^ 62 + 2 ^ 61: all of it fits 64 bits at 256 blocks.
abbrev pub SumsFit : Type 0
SumsFit = (L : ℕ) (c : PriceCard) (hs : List ℕ) (q j : ℕ) → T (prices_ok c) → T (counts_ok L hs) → j ≤ search_limit → running_sum L c hs q j ≤ 2 ^ 49
