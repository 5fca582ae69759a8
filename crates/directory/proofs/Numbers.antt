-- A directory that passes 6: its lengths, its fences, a partition's start and length, and one number stored. Assumes nothing.
use Prim.Native.Nat.{ℕ, suc, ◌+◌, ◌-◌, ◌≤◌, ◌<◌}
use mathlib.Core.Path.{◌≡◌, refl, sym, ap, ◌∙◌}
use mathlib.Core.List.{List, [], ◌∷◌, ◌++◌}
use native.Mathlib.Omega.{arith}
use lib.Dec.{T}
use lib.ListN.{length, get_or, take, drop, set, length-set, take-append-drop}
use lib.Seq.{take-take, get_or-take, get_or-drop, length-take-le, set-append_left}
use Rattle.model.specs.Bounds.{most_slots}
use Rattle.model.specs.Lists.{sum_of, rising}
use Rattle.model.specs.Partitions.{start_of}
use Rattle.model.specs.Accesses.{onward}
use Rattle.model.specs.Directory.{directory_size, directory_of, directory_ok, with_lengths}
use Rattle.model.proofs.DirectoryLaws.{Shaped, shaped, length_lengths, length_fences}
use Rattle.model.proofs.ListLaws.{elem_le}
use Rattle.model.proofs.Parts.{start_le}
use Rattle.directory.specs.Numbers.{Numbered, HasPartition}

module _ (L : ℕ) (ns : List ℕ) (o : T (directory_ok L most_slots ns)) where
  dir : Shaped L most_slots ns
  dir = shaped L most_slots ns o

  pub dir_size : length ns ≡ directory_size L
  dir_size = dir.size

  pub dir_some : 1 ≤ get_or ns 1 0
  dir_some = dir.some

  pub dir_few : get_or ns 1 0 ≤ L
  dir_few = dir.few

  pub dir_many : length (directory_of L ns).lengths ≡ get_or ns 1 0
  dir_many = length_lengths L most_slots ns dir

  pub dir_count : length (directory_of L ns).fences ≡ get_or ns 1 0
  dir_count = length_fences L most_slots ns dir

  pub dir_rises : T (rising (directory_of L ns).fences)
  dir_rises = dir.rises

  pub dir_ahead : (t : ℕ) → t ≤ get_or ns 1 0 → sum_of (take (2 + t - 2) (drop 2 ns)) ≡ start_of (directory_of L ns).lengths t
  unfolding start_of directory_of
  dir_ahead t h =
      let e : 2 + t - 2 ≡ t = omega arith in
      rw e (ap sum_of (sym (take-take t (get_or ns 1 0) (drop 2 ns) h)))

  dir_length : (t : ℕ) → t < get_or ns 1 0 → get_or ns (2 + t) 0 ≡ get_or (directory_of L ns).lengths t 0
  unfolding directory_of
  dir_length t h = sym (get_or-take (get_or ns 1 0) (drop 2 ns) t 0 h ∙ get_or-drop 2 ns t 0)

  -- a start and a length fit
  pub dir_start : (t : ℕ) → start_of (directory_of L ns).lengths t ≤ most_slots
  dir_start t = omega (arith, start_le (directory_of L ns).lengths t, dir.room)

  pub dir_fits : (t : ℕ) → get_or (directory_of L ns).lengths t 0 ≤ most_slots
  dir_fits t = omega (arith, elem_le (directory_of L ns).lengths t, dir.room)

-- the block length is the first number
pub block_is : (L : ℕ) (ns : List ℕ) → (directory_of L ns).block ≡ get_or ns 0 0
unfolding directory_of
block_is L ns = refl

-- A length stored.

set_in_front : (l : List ℕ) (k t v : ℕ) → t < k → k ≤ length l → set l t v ≡ set (take k l) t v ++ drop k l
set_in_front l k t v h m =
    ap (λ (x : List ℕ). set x t v) (sym (take-append-drop k l)) ∙ set-append_left (take k l) (drop k l) t v (omega (arith, length-take-le k l m))

set-length : (L : ℕ) (ns : List ℕ) (t v : ℕ) → length ns ≡ directory_size L → get_or ns 1 0 ≤ L → t < get_or ns 1 0 → set ns (2 + t) v ≡ with_lengths (set (directory_of L ns).lengths t v) ns
unfolding with_lengths directory_of
set-length L [] t v e h k = absurd (omega arith)
set-length L (b ∷ []) t v e h k = absurd (omega arith)
set-length L (b ∷ c ∷ r) t v e h k =
    let q : 2 + t ≡ suc (suc t) = omega arith in
    let n : length (set (take c r) t v) ≡ c = length-set (take c r) t v ∙ length-take-le c r (omega arith) in
    ap (λ (m : ℕ). set (b ∷ c ∷ r) m v) q ∙ ap (λ (l : List ℕ). b ∷ c ∷ l) (set_in_front r c t v k (omega arith) ∙ ap (λ (m : ℕ). set (take c r) t v ++ drop m r) (sym n))

-- A partition of a directory.

module _ (L : ℕ) (ns : List ℕ) (t : ℕ) (h : HasPartition L ns t) where
  pub has_size : length ns ≡ directory_size L
  has_size = dir_size L ns h.shaped

  pub has_numbered : Numbered L ns
  has_numbered = record { size = has_size; few = dir_few L ns h.shaped }

  pub has_inside : t < length (directory_of L ns).lengths
  has_inside = omega (arith, h.there, dir_many L ns h.shaped)

  pub has_room : t < L
  has_room = omega (arith, h.there, dir_few L ns h.shaped)

  -- its length is one of the numbers
  pub has_place : 2 + t < length ns
  has_place = omega (arith, has_size, has_room)

  pub has_onward : onward (directory_of L ns) t ≤ L
  has_onward = omega (arith, dir_count L ns h.shaped, dir_few L ns h.shaped)

  pub has_length : get_or ns (2 + t) 0 ≡ get_or (directory_of L ns).lengths t 0
  has_length = dir_length L ns h.shaped t h.there

  -- one length changed is one number stored
  pub has_stored : (v : ℕ) → set ns (2 + t) v ≡ with_lengths (set (directory_of L ns).lengths t v) ns
  has_stored v = set-length L ns t v has_size (dir_few L ns h.shaped) h.there
