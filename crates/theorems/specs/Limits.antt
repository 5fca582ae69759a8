-- 02, Slip 2: what the limits of a permitted layout mean, in priced counts; proofs/Limits.antt proves it.
-- A layout is permitted exactly when it passes 6 and, on the column freshly laid by it, no find's priced counts exceed R and no
-- insert's exceed U, whatever the grower.
use Rattle.std.specs.Prelude.{ℕ, ◌≤◌, ◌<◌, ◌↔◌, List, length, get_or, T}
use Rattle.model.specs.declared.Delivery.{Delivery}
use Rattle.model.specs.declared.PriceCard.{PriceCard}
use Rattle.model.specs.declared.Limits.{Limits}
use Rattle.model.specs.Deliveries.{delivery}
use Rattle.model.specs.Blocks.{Set}
use Rattle.model.specs.Calls.{find, insert}
use Rattle.model.specs.Layouts.{layout_ok, permitted}
use Rattle.theorems.specs.Plan.{Admitted, reported}

-- the block limit, the prices, the limits, the set and a layout of it
module _ (L : ℕ) (p : PriceCard) (l : Limits) (s : Set) (ends : List ℕ) where
  -- "at prices 3, 1, 2 and a read limit of 4, a partition of two blocks costs a find 3 + 1 = 4, which meets it"
  pub record WithinLimits : Type 0 where
    pub finds : (g : ℕ) → reported L p s ends (find g) ≤ l.read
    pub inserts : (d : Delivery) → reported L p s ends (insert d) ≤ l.insert

  -- the same of the set's own growers alone, each with one find and one insert
  pub record OwnWithinLimits : Type 0 where
    pub finds : (i : ℕ) → i < s.used → reported L p s ends (find (get_or s.slices.growers i 0)) ≤ l.read
    pub inserts : (i : ℕ) → i < s.used → reported L p s ends (insert (delivery (get_or s.slices.growers i 0) 0 0 0)) ≤ l.insert

-- for every admitted set with a free slot: without one an insert is refused by 12 and reports nothing, whatever U is
abbrev pub LimitsKept : Type 0
LimitsKept = (L : ℕ) (p : PriceCard) (l : Limits) (s : Set) → Admitted L p l s → s.used < length s.slices.growers → (ends : List ℕ)
    → T (permitted p l s ends) ↔ (T (layout_ok s ends) × WithinLimits L p l s ends)

-- and it is enough to try the growers that the set has
abbrev pub OwnLimitsKept : Type 0
OwnLimitsKept = (L : ℕ) (p : PriceCard) (l : Limits) (s : Set) → Admitted L p l s → s.used < length s.slices.growers → (ends : List ℕ)
    → T (permitted p l s ends) ↔ (T (layout_ok s ends) × OwnWithinLimits L p l s ends)
