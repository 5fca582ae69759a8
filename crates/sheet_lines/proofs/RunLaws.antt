-- A run of one grower's slots, summed: what was added, and what the slots of the run from place i on add, is the whole. Assumes nothing.
use Prim.Native.Nat.{ℕ, ◌+◌, ◌*◌, ◌≤◌, ◌<◌}
use mathlib.Core.Path.{◌≡◌, refl, ap}
use mathlib.Core.List.{List, [], ◌∷◌, map}
use native.Mathlib.Omega.{arith}
use borrow.Author.Tests.{eq-eqb, ne_eqb}
use lib.ListN.{length, get_or, drop, length-map, drop_of_length-le}
use Rattle.model.specs.declared.Delivery.{Delivery}
use Rattle.model.specs.declared.Totals.{Totals}
use Rattle.model.specs.Lists.{sum_of}
use Rattle.model.specs.Bounds.{most_slots}
use Rattle.model.specs.Deliveries.{weight_of, Slices, LightTotals, totals_of}
use Rattle.model.proofs.ListLaws.{drop_next}
use Rattle.slices.specs.Slices.{Measured}
use Rattle.slices.proofs.Scans.{modest}
use Rattle.sheet_lines.specs.Runs.{delivery_at, records_at, slots_front, run_from}

-- equal totals by their numbers
pub totals_by : {a b : Totals} → a.records ≡ b.records → a.weight ≡ b.weight → a.oil ≡ b.oil → a ≡ b
totals_by r w o = λ i. record { records = r i; weight = w i; oil = o i }

-- the grower of a place of an order
abbrev pub grower_at : List ℕ → List ℕ → ℕ → ℕ
grower_at gs order i = get_or gs (get_or order i 0) 0

-- the part of grower n's run that is left at place i
unfoldable pub left : List ℕ → List ℕ → ℕ → ℕ → List ℕ
left gs order n i = slots_front gs n (drop i order)

abbrev weights : Slices → List ℕ → ℕ
weights s is = sum_of (map weight_of (records_at s is))

abbrev oils : Slices → List ℕ → ℕ
oils s is = sum_of (map (λ (d : Delivery). d.weight * d.oil_yield) (records_at s is))

-- the totals of slots are small
weights_most : (s : Slices) → Measured s → (is : List ℕ) → weights s is ≤ 100000 * length is
unfolding sum_of
weights_most s m [] = omega arith
weights_most s m (i ∷ is) = omega (arith, (modest s i m).weight, weights_most s m is)

oils_most : (s : Slices) → Measured s → (is : List ℕ) → oils s is ≤ 1000000000 * length is
unfolding sum_of
oils_most s m [] = omega arith
oils_most s m (i ∷ is) = omega (arith, (modest s i m).oil, oils_most s m is)

pub slots_light : (s : Slices) → Measured s → (is : List ℕ) → length is ≤ most_slots → LightTotals most_slots (totals_of (records_at s is))
unfolding totals_of
slots_light s m is h = record {
  few = omega (arith, length-map is (delivery_at s));
  light = omega (arith, weights_most s m is);
  little = omega (arith, oils_most s m is);
}

pub record RunLeft (s : Slices) (order : List ℕ) (first records weight oil i : ℕ) : Type 0 where
  pub many : first + records ≡ i
  pub from : first ≤ i
  pub to : i ≤ length order
  pub counted : i + length (left s.growers order (grower_at s.growers order first) i) ≡ first + length (run_from s.growers first order)
  pub weighed : weight + weights s (left s.growers order (grower_at s.growers order first) i) ≡ weights s (run_from s.growers first order)
  pub pressed : oil + oils s (left s.growers order (grower_at s.growers order first) i) ≡ oils s (run_from s.growers first order)
  pub light : weight ≤ 100000 * i
  pub little : oil ≤ 1000000000 * i

-- the run ends here, with these totals
abbrev RunIs : Slices → List ℕ → ℕ → Totals → Type 0
RunIs s order first t = t ≡ totals_of (records_at s (run_from s.growers first order))

-- as many slots as records
pub run_long : (s : Slices) (is : List ℕ) → (totals_of (records_at s is)).records ≡ length is
unfolding totals_of
run_long s is = length-map is (delivery_at s)

pub run_start : (s : Slices) (order : List ℕ) (first : ℕ) → first < length order → RunLeft s order first 0 0 0 first
unfolding left run_from
run_start s order first h = record { many = omega arith; from = omega arith; to = omega arith; counted = refl; weighed = omega arith; pressed = omega arith; light = omega arith; little = omega arith }

module _ {s : Slices} {order : List ℕ} {first records weight oil i : ℕ} (l : RunLeft s order first records weight oil i) where
  abbrev sums : Totals
  sums = record { records = records; weight = weight; oil = oil }

  -- the slot at i is of the run
  pub run_next : Measured s → i < length order → grower_at s.growers order i ≡ grower_at s.growers order first
      → RunLeft s order first (records + 1) (weight + get_or s.weights (get_or order i 0) 0) (oil + get_or s.weights (get_or order i 0) 0 * get_or s.yields (get_or order i 0) 0) (i + 1)
  unfolding left slots_front sum_of
  run_next m h e =
      let k : ℕ = get_or order i 0 in
      let n : ℕ = grower_at s.growers order first in
      let o = modest s k m in
      let x : left s.growers order n i ≡ k ∷ left s.growers order n (i + 1) = rw (drop_next order i h, eq-eqb (get_or s.growers k 0) n e) in
      record {
        many = omega (arith, l.many);
        from = omega (arith, l.from);
        to = omega arith;
        counted = omega (arith, ap length x, l.counted);
        weighed = omega (arith, ap (weights s) x, l.weighed);
        pressed = omega (arith, ap (oils s) x, l.pressed);
        light = omega (arith, l.light, o.weight);
        little = omega (arith, l.little, o.oil);
      }

  -- where nothing of the run is left, it ends
  run_over : left s.growers order (grower_at s.growers order first) i ≡ [] → RunIs s order first sums
  unfolding totals_of sum_of
  run_over x =
      totals_by (omega (arith, ap length x, l.counted, l.many, length-map (run_from s.growers first order) (delivery_at s))) (omega (arith, ap (weights s) x, l.weighed))
      (omega (arith, ap (oils s) x, l.pressed))

  pub run_stops : i < length order → (grower_at s.growers order i ≡ grower_at s.growers order first → ⊥) → RunIs s order first sums
  unfolding left slots_front
  run_stops h o = run_over (rw (drop_next order i h, ne_eqb (grower_at s.growers order i) (grower_at s.growers order first) o))

  pub run_ends : length order ≤ i → RunIs s order first sums
  unfolding left slots_front
  run_ends h = run_over (rw (drop_of_length-le order h))
