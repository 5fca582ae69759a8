-- The directory: "B, the partition count K (1 to 64), and each partition's length and fence", and its numbers.
use Rattle.std.specs.Prelude.{ℕ, ◌+◌, ◌-◌, ◌*◌, Bool, not, ◌&&◌, ◌||◌, List, ◌∷◌, ◌++◌, length, take, drop, get_or, replicate, leb, eqb}
use Rattle.model.specs.Lists.{sum_of, every, rising}
use Rattle.model.specs.Blocks.{block_length_ok}

pub record Directory : Type 0 where
  pub block : ℕ
  pub lengths : List ℕ
  pub fences : List ℕ

-- L is the block limit: "the directory as 130 numbers: B, K, 64 lengths, 64 fences, unused ones 0 (otherwise 6)"
module _ (L : ℕ) where
  abbrev pub directory_size : ℕ
  directory_size = 2 + 2 * L

  abbrev pub partition_count : List ℕ → ℕ
  partition_count ns = get_or ns 1 0

  -- the directory read off its numbers
  unfoldable pub directory_of : List ℕ → Directory
  directory_of ns = record { block = get_or ns 0 0; lengths = take (partition_count ns) (drop 2 ns); fences = take (partition_count ns) (drop L (drop 2 ns)) }

  -- the numbers that belong to no partition
  unfoldable pub unused_numbers : List ℕ → List ℕ
  unused_numbers ns = drop (partition_count ns) (take L (drop 2 ns)) ++ drop (partition_count ns) (drop L (drop 2 ns))

  -- the numbers of a directory
  abbrev pub padded : List ℕ → List ℕ
  padded l = l ++ replicate (L - length l) 0

  unfoldable pub directory_numbers : Directory → List ℕ
  directory_numbers d = d.block ∷ length d.lengths ∷ (padded d.lengths ++ padded d.fences)

  -- "the directory of a refused laying or reading all 0"
  abbrev pub no_directory : List ℕ
  no_directory = replicate directory_size 0

  -- check 2, of the directory's B; a slice of another length holds no B
  unfoldable pub directory_block_ok : List ℕ → Bool
  directory_block_ok ns = not (eqb (length ns) directory_size) || block_length_ok (get_or ns 0 0)

  -- check 6, of a directory for C slots: "counts in range, .. fences strictly rising, .. lengths totalling at most C"
  unfoldable pub directory_ok : ℕ → List ℕ → Bool
  directory_ok c ns =
      eqb (length ns) directory_size
      && leb 1 (partition_count ns)
      && leb (partition_count ns) L
      && every (eqb 0) (unused_numbers ns)
      && rising (directory_of ns).fences
      && leb (sum_of (directory_of ns).lengths) c

-- the numbers of a directory whose lengths have changed
unfoldable pub with_lengths : List ℕ → List ℕ → List ℕ
with_lengths ls ns = take 2 ns ++ (ls ++ drop (length ls) (drop 2 ns))
