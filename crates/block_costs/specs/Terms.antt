-- The five terms of a block's cost, from prices and histograms (01: the bill), each a price times a sum of counts; and their running sums.
use Rattle.std.specs.Prelude.{ℕ, zero, suc, ◌+◌, ◌*◌, ◌≤◌, ◌<◌, ◌≡◌, List, length, get_or}
use Rattle.model.specs.declared.PriceCard.{PriceCard}
use Rattle.model.specs.Bounds.{most_count, most_price}
use Rattle.model.specs.Histograms.{Histogram, pq, rs, re, sc, de, ins, udf, utf, udb, utb, at, histograms_size, count}
use Rattle.layout_search.specs.Sums.{sum}
use Rattle.layout_search.specs.RunningSums.{sums_per_place, sum_at}

-- L is the block limit
module _ (L : ℕ) (c : PriceCard) (hs : List ℕ) (i : ℕ) where
  -- the count of a histogram at block i
  abbrev n : Histogram → ℕ
  n h = count L hs (at h i)

  -- what does not depend on the layout
  unfoldable pub fixed_of : ℕ
  fixed_of =
      c.rr * (n pq + n rs)
      + c.sr * (n re + n sc)
      + (c.rr + c.«rw») * (n ins + n de)
      + 2 * ((c.rr + c.«rw») * (n udf + n udb))

  -- for each block before it in its partition, and for each after it
  unfoldable pub per_block_before_of : ℕ
  per_block_before_of = c.sr * (n pq + n rs + n de + n udf + n udb)

  unfoldable pub per_block_after_of : ℕ
  per_block_after_of = c.sr * (n pq + n re + n de + n udf + n udb)

  -- for each partition from its own to the last: what is added, and what is taken off
  unfoldable pub per_partition_added_of : ℕ
  per_partition_added_of = (c.rr + c.«rw») * (n ins + n de + n udf + n utb)

  unfoldable pub per_partition_saved_of : ℕ
  per_partition_saved_of = (c.rr + c.«rw») * (n utf + n udb)

-- the seven that are added up, in the order of the running sums: those that depend on the block's place in its partition also times the block's number
abbrev pub pick : ℕ → ℕ → ℕ → ℕ → ℕ → ℕ → ℕ → ℕ → ℕ
pick zero a b c d e f g = a
pick (suc zero) a b c d e f g = b
pick (suc (suc zero)) a b c d e f g = c
pick (suc (suc (suc zero))) a b c d e f g = d
pick (suc (suc (suc (suc zero)))) a b c d e f g = e
pick (suc (suc (suc (suc (suc zero))))) a b c d e f g = f
pick (suc (suc (suc (suc (suc (suc n)))))) a b c d e f g = g

unfoldable pub term_of : ℕ → PriceCard → List ℕ → ℕ → ℕ → ℕ
term_of L c hs q i =
    let before : ℕ = per_block_before_of L c hs i in
    let after : ℕ = per_block_after_of L c hs i in
    pick q (fixed_of L c hs i) before (before * i) after (after * i) (per_partition_added_of L c hs i) (per_partition_saved_of L c hs i)

-- 02, Slip 5: "the histograms are to be added up once, into running sums": sum q over the blocks before j
unfoldable pub running_sum : ℕ → PriceCard → List ℕ → ℕ → ℕ → ℕ
running_sum L c hs q j = sum (term_of L c hs q) 0 j

-- prices that pass check 1, and histograms that pass check 9
pub record PricesPass (c : PriceCard) : Type 0 where
  pub rr_least : 1 ≤ c.rr
  pub rr_most : c.rr ≤ most_price
  pub sr_least : 1 ≤ c.sr
  pub sr_most : c.sr ≤ most_price
  pub rw_most : c.«rw» ≤ most_price

pub record Counted (L : ℕ) (hs : List ℕ) : Type 0 where
  pub long : length hs ≡ histograms_size L
  pub each : (x : ℕ) → get_or hs x 0 ≤ most_count

-- the first y of the running sums are in place
pub record Summed (L : ℕ) (c : PriceCard) (hs : List ℕ) (y : ℕ) (sums : List ℕ) : Type 0 where
  pub here : (q j : ℕ) → q < sums_per_place → j * sums_per_place + q < y → sum_at sums q j ≡ running_sum L c hs q j

pub record Loaded (L : ℕ) (c : PriceCard) (hs : List ℕ) (y : ℕ) (old sums : List ℕ) : Type 0 where
  pub long : length sums ≡ length old
  pub summed : Summed L c hs y sums
