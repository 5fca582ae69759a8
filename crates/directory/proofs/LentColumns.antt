-- A directory and slices that pass checks 2, 3 and 6. Assumes nothing.
use Prim.Native.Nat.{ℕ, ◌≤◌, ◌<◌}
use mathlib.Core.Path.{◌≡◌}
use mathlib.Core.List.{List}
use native.Mathlib.Omega.{arith}
use borrow.Author.Tests.{eq-eqb}
use lib.Dec.{T, leb, leb→le}
use lib.ListN.{length, get_or}
use Rattle.model.specs.Bounds.{most_block_length, most_slots}
use Rattle.model.specs.Checks.{first_failed}
use Rattle.model.specs.Blocks.{block_length_ok, slices_ok}
use Rattle.model.specs.Directory.{directory_size, partition_count, directory_block_ok, directory_ok}
use Rattle.model.specs.Column.{Column, lengths_of, fences_of}
use Rattle.model.specs.Deliveries.{Even}
use Rattle.model.specs.Questions.{lent_checks}
use Rattle.model.proofs.Tests.{and_fst, yes_first}
use Rattle.model.proofs.SetLaws.{sliced}
use Rattle.model.proofs.DirectoryLaws.{Shaped, shaped, shaped_passes, length_lengths, length_fences}
use Rattle.directory.specs.Numbers.{Numbered, HasPartition}

-- L is the block limit
module _ (L : ℕ) where
  pub record LentColumn (c : Column) : Type 0 where
    pub shape : Shaped L (length c.slices.growers) c.directory
    pub block : 1 ≤ get_or c.directory 0 0
    pub most : length c.slices.growers ≤ most_slots
    pub even : Even c.slices

  block_there : (ns : List ℕ) → length ns ≡ directory_size L → T (directory_block_ok L ns) → T (block_length_ok (get_or ns 0 0))
  unfolding directory_block_ok
  block_there ns e t = rw (eq-eqb (length ns) (directory_size L) e) at t

  pub lent_column : (c : Column) → first_failed (lent_checks L c) ≡ 0 → LentColumn c
  unfolding block_length_ok
  lent_column c h =
      let c2 = yes_first 1 (directory_block_ok L c.directory) _ h in
      let c3 = yes_first 2 (slices_ok c.slices) _ c2.1 in
      let c6 = yes_first 5 (directory_ok L (length c.slices.growers) c.directory) _ c3.1 in
      let s = shaped L (length c.slices.growers) c.directory c6.0 in
      let l = sliced c.slices c3.0 in
      let b = get_or c.directory 0 0 in
      record {
        shape = s;
        block = leb→le 1 b (and_fst (leb 1 b) (leb b most_block_length) (block_there c.directory s.size c2.0));
        most = l.most;
        even = l.even;
      }

  module _ (c : Column) (l : LentColumn c) where
    pub numbered : Numbered L c.directory
    numbered = record { size = l.shape.size; few = l.shape.few }

    pub count_lengths : length (lengths_of L c) ≡ partition_count L c.directory
    count_lengths = length_lengths L (length c.slices.growers) c.directory l.shape

    pub count_fences : length (fences_of L c) ≡ partition_count L c.directory
    count_fences = length_fences L (length c.slices.growers) c.directory l.shape

    -- the directory is one for the most slots
    pub most_shaped : T (directory_ok L most_slots c.directory)
    most_shaped =
        let s = l.shape in
        shaped_passes L most_slots c.directory (record { size = s.size; some = s.some; few = s.few; unused = s.unused; rises = s.rises; room = omega (arith, s.room, l.most) })

    pub has_partition : (t : ℕ) → t < length (lengths_of L c) → HasPartition L c.directory t
    has_partition t h = record { shaped = most_shaped; there = omega (arith, count_lengths) }
