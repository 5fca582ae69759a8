-- Runs of one grower's slots in an order.
use Rattle.std.specs.Prelude.{ℕ, ◌≤◌, cond, List, [], ◌∷◌, map, length, get_or, drop, T, eqb}
use Rattle.model.specs.declared.Delivery.{Delivery}
use Rattle.model.specs.Bounds.{most_slots}
use Rattle.model.specs.Lists.{never_falls}
use Rattle.model.specs.Deliveries.{Slices, delivery}
use Rattle.slot_order.specs.Passes.{slots_in, growers_at}

-- the delivery in a slot
abbrev pub delivery_at : Slices → ℕ → Delivery
delivery_at s i = delivery (get_or s.growers i 0) (get_or s.weights i 0) (get_or s.yields i 0) (get_or s.days i 0)

-- the deliveries in slots
abbrev pub records_at : Slices → List ℕ → List Delivery
records_at s is = map (delivery_at s) is

-- slots in order of grower
pub record InOrder (gs order : List ℕ) : Type 0 where
  pub few : length order ≤ most_slots
  pub there : T (slots_in gs order)
  pub falls_not : T (never_falls (growers_at gs order))

-- the slots at the front of a list that hold grower g
unfoldable pub slots_front : List ℕ → ℕ → List ℕ → List ℕ
slots_front gs g [] = []
slots_front gs g (i ∷ is) = cond (eqb (get_or gs i 0) g) (i ∷ slots_front gs g is) []

-- the run that begins at a place of an order
unfoldable pub run_from : List ℕ → ℕ → List ℕ → List ℕ
run_from gs from order = slots_front gs (get_or gs (get_or order from 0) 0) (drop from order)
