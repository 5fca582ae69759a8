-- The limits' theorem on 01's main case: limits that are met exactly, limits one below, and why a free slot is asked for.
use Rattle.std.specs.Prelude.{◌≡◌, true, false, List, [], ◌∷◌, ℕ, take, T}
use Rattle.model.specs.Bounds.{block_limit}
use Rattle.model.specs.Deliveries.{each_slice}
use Rattle.model.specs.Blocks.{Set}
use Rattle.model.specs.Calls.{find, insert}
use Rattle.model.specs.Prices.{factory, limits}
use Rattle.model.specs.Layouts.{layout_ok, permitted}
use Rattle.model.specs.Examples.{week, of, halves}
use Rattle.theorems.specs.Plan.{Admitted, reported}
use Rattle.theorems.specs.Limits.{OwnWithinLimits}

-- a partition for each block
abbrev pub singles : List ℕ
singles = 0 ∷ 1 ∷ 2 ∷ 3 ∷ []

pub record MetExactly : Type 0 where
  -- "a partition of two blocks costs a find 3 + 1 = 4, which meets" a read limit of 4
  pub find_30 : reported block_limit factory week halves (find 30) ≡ 4
  pub read_4 : permitted factory (limits 4 100) week halves ≡ true
  pub read_3 : permitted factory (limits 3 100) week halves ≡ false
  -- "with R below RR there is still none"
  pub find_30_alone : reported block_limit factory week singles (find 30) ≡ 3
  pub alone_3 : permitted factory (limits 3 100) week singles ≡ true
  pub alone_2 : permitted factory (limits 2 100) week singles ≡ false
  -- 01: "U 15 permits two partitions, U 14 one"
  pub insert_15 : reported block_limit factory week halves (insert (of 15)) ≡ 15
  pub limit_15 : permitted factory (limits 100 15) week halves ≡ true
  pub limit_14 : permitted factory (limits 100 14) week halves ≡ false

-- the same deliveries without a free slot
abbrev pub full_week : Set
full_week = record { block = 2; used = 8; slices = each_slice (take 8) week.slices }

-- there inserts are refused and cost nothing, so the calls are within the limits, and yet the layout is not permitted
pub record FreeSlotNeeded : Type 0 where
  pub admitted : Admitted block_limit factory (limits 100 14) full_week
  pub shape : T (layout_ok full_week halves)
  pub refused : reported block_limit factory full_week halves (insert (of 15)) ≡ 0
  pub within : OwnWithinLimits block_limit factory (limits 100 14) full_week halves
  pub not_allowed : permitted factory (limits 100 14) full_week halves ≡ false
