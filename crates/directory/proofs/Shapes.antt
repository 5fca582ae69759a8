-- Check 2 of a directory, test by test. Assumes nothing.
use Prim.Native.Nat.{ℕ}
use mathlib.Core.Path.{◌≡◌}
use mathlib.Core.Bool.{true}
use mathlib.Core.List.{List}
use borrow.Author.Tests.{eq-eqb, ne_eqb}
use lib.ListN.{length, get_or}
use Rattle.model.specs.Blocks.{block_length_ok}
use Rattle.model.specs.Directory.{directory_size, directory_block_ok}

-- L is the block limit
module _ (L : ℕ) where
  module _ (ns : List ℕ) where
    pub no_directory : (length ns ≡ directory_size L → ⊥) → true ≡ directory_block_ok L ns
    unfolding directory_block_ok
    no_directory h = rw (ne_eqb (length ns) (directory_size L) h)

    pub directory_block : length ns ≡ directory_size L → block_length_ok (get_or ns 0 0) ≡ directory_block_ok L ns
    unfolding directory_block_ok
    directory_block e = rw (eq-eqb (length ns) (directory_size L) e)
