-- What judging a directory and its slices answers.
use Rattle.std.specs.Prelude.{ℕ, ◌≡◌, List}
use Rattle.model.specs.Lists.{sum_of}
use Rattle.model.specs.Place.{place}
use Rattle.model.specs.Partitions.{start_of}
use Rattle.model.specs.Directory.{directory_of}

-- L is the block limit
module _ (L : ℕ) where
  -- what is read off a directory: its used slots, a grower's partition and where that starts
  pub record Carried (ns : List ℕ) (g used target start : ℕ) : Type 0 where
    pub used_is : used ≡ sum_of (directory_of L ns).lengths
    pub target_is : target ≡ place (directory_of L ns).fences g
    pub start_is : start ≡ start_of (directory_of L ns).lengths (place (directory_of L ns).fences g)
