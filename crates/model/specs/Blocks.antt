-- The unpartitioned set and its blocks (01: the unlaid set; deliveries and blocks).
use Rattle.std.specs.Prelude.{ℕ, ◌+◌, ◌-◌, ◌*◌, min, Bool, ◌&&◌, List, map, length, take, get_or, leb, eqb}
use Rattle.model.specs.declared.Delivery.{Delivery}
use Rattle.model.specs.Bounds.{most_slots, most_block_length}
use Rattle.model.specs.Lists.{ceil_div, up_from, every, never_falls}
use Rattle.model.specs.Place.{place}
use Rattle.model.specs.Deliveries.{Slices, first_slots, in_range, day_ok}

-- block length B, M used slots, and the slices
pub record Set : Type 0 where
  pub block : ℕ
  pub used : ℕ
  pub slices : Slices

-- "the first M slots are used"
abbrev pub held : Set → List Delivery
held s = first_slots s.used s.slices

-- "N is M / B rounded up"
abbrev pub blocks : Set → ℕ
blocks s = ceil_div s.used s.block

-- "block i holds slots i × B onward, the last perhaps short": the slot just past it
abbrev pub block_stop : Set → ℕ → ℕ
block_stop s i = min ((i + 1) * s.block) s.used

-- the last grower of block i
abbrev pub last_grower : Set → ℕ → ℕ
last_grower s i = get_or s.slices.growers (block_stop s i - 1) 0

-- "the block of a grower g is the first block whose last grower is at least g; if there is none, the last block"
unfoldable pub block_of : Set → ℕ → ℕ
block_of s g = place (map (last_grower s) (up_from 0 (blocks s))) g

-- check 2: "is B 1 to 4,096?"
unfoldable pub block_length_ok : ℕ → Bool
block_length_ok b = leb 1 b && leb b most_block_length

-- check 3, of one slice's length C: "1 to 262,144"
unfoldable pub slots_ok : ℕ → Bool
slots_ok c = leb 1 c && leb c most_slots

-- check 3: "do the three slices share one C, 1 to 262,144?"; 02, Slip 7: "question 3 covers four slices"
unfoldable pub slices_ok : Slices → Bool
slices_ok s =
    let c : ℕ = length s.growers in
    eqb (length s.weights) c && eqb (length s.yields) c && eqb (length s.days) c && slots_ok c

-- check 4: "M from 1 to the smaller of C and 64 × B"
unfoldable pub used_ok : ℕ → Set → Bool
used_ok L s = leb 1 s.used && leb s.used (length s.slices.growers) && leb s.used (L * s.block)

-- check 5: "do its growers never fall?"
unfoldable pub growers_ok : Set → Bool
growers_ok s = never_falls (take s.used s.slices.growers)

-- check 8 of the set: its first M slots
unfoldable pub values_ok : Set → Bool
values_ok s = every in_range (held s)

-- check 19 of the set: "of records, asked where 8 is"
unfoldable pub days_ok : Set → Bool
days_ok s = every day_ok (held s)
