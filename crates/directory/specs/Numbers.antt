-- The numbers of a directory, over the block limit L.
use Rattle.std.specs.Prelude.{ℕ, ◌+◌, ◌*◌, ◌≤◌, ◌<◌, ◌≡◌, List, ◌∷◌, T, length, set, replicate}
use Rattle.model.specs.Bounds.{most_slots}
use Rattle.model.specs.Directory.{directory_size, partition_count, directory_ok}

-- as many numbers as a directory has, and no more partitions than there is room for
pub record Numbered (L : ℕ) (ns : List ℕ) : Type 0 where
  pub size : length ns ≡ directory_size L
  pub few : partition_count L ns ≤ L

-- partition t of a directory that passes 6
pub record HasPartition (L : ℕ) (ns : List ℕ) (t : ℕ) : Type 0 where
  pub shaped : T (directory_ok L most_slots ns)
  pub there : t < partition_count L ns

-- block length b and k partitions, the length and the fence of each still 0
abbrev pub blank : ℕ → ℕ → ℕ → List ℕ
blank L b k = b ∷ k ∷ replicate (2 * L) 0

-- the length n and the fence f of partition t
abbrev pub with_partition : ℕ → ℕ → ℕ → ℕ → List ℕ → List ℕ
with_partition L t n f ns = set (set ns (2 + t) n) (2 + L + t) f
