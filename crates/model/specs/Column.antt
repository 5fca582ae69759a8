-- The laid column (01): the lent directory and slices, laying, and soundness.
use Rattle.std.specs.Prelude.{ℕ, ◌-◌, Bool, length, ltb, eqb}
use mathlib.Core.List.{List, [], ◌∷◌, map, flatten}
use Rattle.model.specs.declared.Delivery.{Delivery}
use Rattle.model.specs.Lists.{sum_of, every}
use Rattle.model.specs.Place.{place}
use Rattle.model.specs.Deliveries.{Slices, rows, in_range, day_ok, among}
use Rattle.model.specs.Blocks.{Set, block_stop, last_grower}
use Rattle.model.specs.Partitions.{parts, between, every_at}
use Rattle.model.specs.Directory.{Directory, directory_of}

-- what is lent to a call: the directory's numbers and the slices
pub record Column : Type 0 where
  pub directory : List ℕ
  pub slices : Slices

-- the slots as deliveries
abbrev pub slots : Column → List Delivery
slots c = rows c.slices

-- partition p is grower g's: "the first partition whose fence is at least g, else .. the last"
abbrev pub in_place : List ℕ → ℕ → ℕ → Bool
in_place fences p g = eqb (place fences g) p

-- "a column is sound if every record is in its grower's partition": growers with these lengths and fences
unfoldable pub sound_growers : List ℕ → List ℕ → List ℕ → Bool
sound_growers ns fences gs = every_at (in_place fences) 0 (parts ns gs)

-- L is the block limit
module _ (L : ℕ) where
  abbrev pub lengths_of : Column → List ℕ
  lengths_of c = (directory_of L c.directory).lengths

  abbrev pub fences_of : Column → List ℕ
  fences_of c = (directory_of L c.directory).fences

  -- "grower g goes to the first partition whose fence is at least g, else to the last"
  abbrev pub target : Column → ℕ → ℕ
  target c g = place (fences_of c) g

  -- the records of partitions p to q
  abbrev pub records_of : Column → ℕ → ℕ → List Delivery
  records_of c p q = between (lengths_of c) p q (slots c)

  -- the records of grower g's partition
  abbrev pub records_near : Column → ℕ → List Delivery
  records_near c g = records_of c (target c g) (target c g)

  -- the records of all partitions, one after the other
  abbrev pub all_records : Column → List Delivery
  all_records c = flatten (parts (lengths_of c) (slots c))

  -- check 6 of writing: "and sound?"
  unfoldable pub sound : Column → Bool
  sound c = sound_growers (lengths_of c) (fences_of c) c.slices.growers

  -- check 8: "in each partition scanned"
  unfoldable pub scanned_ok : Column → ℕ → ℕ → Bool
  scanned_ok c lo hi = every in_range (records_of c (target c lo) (target c hi))

  -- check 19, likewise
  unfoldable pub scanned_days_ok : Column → ℕ → ℕ → Bool
  scanned_days_ok c lo hi = every day_ok (records_of c (target c lo) (target c hi))

  -- check 12: "is there a free slot?"
  unfoldable pub has_free_slot : Column → Bool
  has_free_slot c = ltb (sum_of (lengths_of c)) (length c.slices.growers)

  -- check 13: "is the delivery in the partition?"
  unfoldable pub has_delivery : Column → Delivery → Bool
  has_delivery c d = among d (records_near c d.grower)

-- Applying a layout (01: laying). "Laying moves no record."

-- the lengths of the partitions with these ends, the first of which starts at slot a
unfoldable pub lengths_from : Set → ℕ → List ℕ → List ℕ
lengths_from s a [] = []
lengths_from s a (e ∷ es) = (block_stop s e - a) ∷ lengths_from s (block_stop s e) es

-- "a fence is its last grower at laying, and stays"
unfoldable pub directory_for : Set → List ℕ → Directory
directory_for s ends = record { block = s.block; lengths = lengths_from s 0 ends; fences = map (last_grower s) ends }
