-- Running sums over the blocks (02, Slip 5), and what a partition costs by them. Seven sums stand at each place j, each over the blocks before block j,
-- so what some blocks add to a sum is the difference of two places.
use Rattle.std.specs.Prelude.{ℕ, ◌+◌, ◌-◌, ◌*◌, ◌^◌, ◌≤◌, ◌<◌, ◌≡◌, Bool, false, cond, List, [], ◌∷◌, leb, length, get_or}
use Rattle.layout_search.specs.declared.Sum.{Sum}
use Rattle.layout_search.specs.declared.Sum.TheVariants.{Fixed, PerBlockBefore, WeightedBefore, PerBlockAfter, WeightedAfter, PerPartitionAdded, PerPartitionSaved}
use Rattle.layout_search.specs.Sums.{span, spans}
use Rattle.layout_search.specs.Task.{search_limit, Task}

-- so many sums to a place
abbrev pub sums_per_place : ℕ
sums_per_place = 7

-- The sums in their order. What does not depend on the layout;
abbrev pub fixed : ℕ
fixed = 0

-- for each block before it in its partition, and the same times the block's number;
abbrev pub per_block_before : ℕ
per_block_before = 1

abbrev pub weighted_before : ℕ
weighted_before = 2

-- for each block after it in its partition, and the same times the block's number;
abbrev pub per_block_after : ℕ
per_block_after = 3

abbrev pub weighted_after : ℕ
weighted_after = 4

-- for each partition from its own to the last: what is added, and what is taken off.
abbrev pub per_partition_added : ℕ
per_partition_added = 5

abbrev pub per_partition_saved : ℕ
per_partition_saved = 6

-- a sum's number
abbrev pub sum_number : Sum → ℕ
sum_number Fixed = fixed
sum_number PerBlockBefore = per_block_before
sum_number WeightedBefore = weighted_before
sum_number PerBlockAfter = per_block_after
sum_number WeightedAfter = weighted_after
sum_number PerPartitionAdded = per_partition_added
sum_number PerPartitionSaved = per_partition_saved

-- sum q at place j
unfoldable pub sum_at : List ℕ → ℕ → ℕ → ℕ
sum_at sums q j = get_or sums (j * sums_per_place + q) 0

-- what block i adds to sum q, and what the blocks a to e add
abbrev pub part_of : List ℕ → ℕ → ℕ → ℕ
part_of sums q i = sum_at sums q (i + 1) - sum_at sums q i

abbrev pub sum_over : List ℕ → ℕ → ℕ → ℕ → ℕ
sum_over sums q a e = sum_at sums q (e + 1) - sum_at sums q a

-- what block i adds to the cost, with b blocks before it, f after it and k partitions from its own to the last, and what it takes off
unfoldable pub adds_of : List ℕ → ℕ → ℕ → ℕ → ℕ → ℕ
adds_of sums i b f k = part_of sums fixed i + part_of sums per_block_before i * b + part_of sums per_block_after i * f + part_of sums per_partition_added i * k

unfoldable pub takes_of : List ℕ → ℕ → ℕ → ℕ
takes_of sums i k = part_of sums per_partition_saved i * k

-- the sums of n blocks: they never fall, and the weighted ones grow by the block's number times the others
pub record Rising (sums : List ℕ) (n : ℕ) : Type 0 where
  pub rise : (q i : ℕ) → q < sums_per_place → i < n → sum_at sums q i ≤ sum_at sums q (i + 1)
  pub before_weighted : (i : ℕ) → i < n → part_of sums weighted_before i ≡ part_of sums per_block_before i * i
  pub after_weighted : (i : ℕ) → i < n → part_of sums weighted_after i ≡ part_of sums per_block_after i * i

-- and each block's part of them is small
pub record Holds (sums : List ℕ) (n : ℕ) : Type 0 where
  pub few : n ≤ search_limit
  pub long : (n + 1) * sums_per_place ≤ length sums
  pub rising : Rising sums n
  pub none : (q : ℕ) → q < sums_per_place → sum_at sums q 0 ≡ 0
  pub part_most : (q i : ℕ) → q < sums_per_place → i < n → part_of sums q i ≤ 2 ^ 41
  pub fixed_most : (i : ℕ) → i < n → part_of sums fixed i ≤ 2 ^ 34
  pub before_most : (i : ℕ) → i < n → part_of sums per_block_before i ≤ 2 ^ 33
  pub after_most : (i : ℕ) → i < n → part_of sums per_block_after i ≤ 2 ^ 33
  pub added_most : (i : ℕ) → i < n → part_of sums per_partition_added i ≤ 2 ^ 33
  pub saved_most : (i : ℕ) → i < n → part_of sums per_partition_saved i ≤ 2 ^ 33

-- may the blocks a to e be a partition?
abbrev pub partition_ok : ℕ → (ℕ → Bool) → ℕ → ℕ → Bool
partition_ok longest fits a e = cond (leb (e + 1 - a) longest) (fits e) false

abbrev pub task_of : List ℕ → List Bool → ℕ → ℕ → Task
task_of sums fits longest n = record {
  n = n;
  ok = partition_ok longest (λ i. get_or fits i false);
  up = adds_of sums;
  down = λ i b f k. takes_of sums i k;
}

-- r is 2 ^ 60 and the part of the price of the blocks a to e that does not depend on the partitions behind:
-- at every count k of partitions from it to the last, k times the two sums of partitions make it the price
pub record LocalPrice (sums : List ℕ) (a e r : ℕ) : Type 0 where
  pub added : (k : ℕ) → r + sum_over sums per_partition_added a e * k ≡ 2 ^ 60 + span (adds_of sums) a e k
  pub saved : (k : ℕ) → span (λ i b f k. takes_of sums i k) a e k ≡ sum_over sums per_partition_saved a e * k
  pub high : r ≤ 2 ^ 60 + 2 ^ 58
  pub low : 2 ^ 60 ≤ r + 2 ^ 58

-- r is 2 ^ 60 and the price of the blocks a to e as a partition
pub record Priced (sums : List ℕ) (a e k r : ℕ) : Type 0 where
  pub is : r + span (λ i b f k. takes_of sums i k) a e k ≡ 2 ^ 60 + span (adds_of sums) a e k
  pub down : span (λ i b f k. takes_of sums i k) a e k ≤ (e + 1 - a) * 2 ^ 43
  pub up : span (adds_of sums) a e k ≤ (e + 1 - a) * 2 ^ 43

-- What the partition of the blocks a to e adds to the cost, whatever comes behind it, and what it takes off: a block has as many partitions from its own
-- to the last as there are ends from it on, so each end counts once the sums of partitions up to it.
abbrev pub end_up : List ℕ → ℕ → ℕ → ℕ
end_up sums a e = span (adds_of sums) a e 0 + sum_at sums per_partition_added (e + 1)

abbrev pub end_down : List ℕ → ℕ → ℕ
end_down sums e = sum_at sums per_partition_saved (e + 1)

-- those of the partitions that end at the blocks of a list, the first of which begins at block a
unfoldable pub up_by : List ℕ → ℕ → List ℕ → ℕ
up_by sums a [] = 0
up_by sums a (e ∷ es) = end_up sums a e + up_by sums (e + 1) es

unfoldable pub down_by : List ℕ → List ℕ → ℕ
down_by sums [] = 0
down_by sums (e ∷ es) = end_down sums e + down_by sums es

-- r is 2 ^ 60 and what the partition of the blocks a to e adds to the cost
pub record EndPriced (sums : List ℕ) (a e r : ℕ) : Type 0 where
  pub is : r + end_down sums e ≡ 2 ^ 60 + end_up sums a e
  pub high : r ≤ 2 ^ 60 + 2 ^ 52
  pub low : 2 ^ 60 ≤ r + 2 ^ 52

-- r is 2 ^ 60 and the cost of the layout by its ends
pub record Numbered (sums ends : List ℕ) (r : ℕ) : Type 0 where
  pub is : r + spans (λ i b f k. takes_of sums i k) 0 ends ≡ 2 ^ 60 + spans (adds_of sums) 0 ends
  pub small : r < 2 ^ 62
