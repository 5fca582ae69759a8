-- The cost of a layout end by end: what each end adds does not depend on the partitions behind it. Assumes nothing.
use Prim.Native.Nat.{ℕ, ◌+◌, ◌-◌, ◌*◌, ◌≤◌, ◌<◌}
use mathlib.Core.Path.{◌≡◌}
use mathlib.Core.List.{List, [], ◌∷◌}
use native.Mathlib.Omega.{arith}
use lib.ListN.{length}
use Rattle.layout_search.specs.Sums.{span, spans}
use Rattle.layout_search.specs.Task.{Covers}
use Rattle.layout_search.specs.RunningSums.{sums_per_place, per_partition_added, per_partition_saved, sum_at, sum_over, adds_of, takes_of, Rising, Holds}
use Rattle.layout_search.specs.RunningSums.{LocalPrice, up_by, down_by, EndPriced}
use Rattle.layout_search.proofs.PriceLaws.{product_grows, rises, span_by_sums, saved_by_sums, sum_small, span_most}

module _ (sums : List ℕ) (n : ℕ) (h : Rising sums n) where
  -- the partitions from its own to the last, and the rest of what a partition adds
  span-behind : (a e k : ℕ) → a ≤ e → e < n → span (adds_of sums) a e k ≡ span (adds_of sums) a e 0 + sum_over sums per_partition_added a e * k
  span-behind a e k u v = omega (arith, span_by_sums sums n h a e u v k, span_by_sums sums n h a e u v 0)

  -- sum q at the places of an end and of its first block, times the ends from it on
  sum_grows : (q a e k : ℕ) → q < sums_per_place → a ≤ e → e < n → sum_at sums q (e + 1) * k ≡ sum_at sums q a * k + sum_over sums q a e * k
  sum_grows q a e k g u v = product_grows (sum_at sums q a) (sum_at sums q (e + 1)) k (rises sums n h q a e g (omega arith) v)

  up_from : (a : ℕ) (es : List ℕ) → Covers n a es → spans (adds_of sums) a es + sum_at sums per_partition_added a * length es ≡ up_by sums a es
  unfolding up_by
  up_from a [] c = omega arith
  up_from a (e ∷ es) c =
      omega (
        arith,
        span-behind a e (length es + 1) c.0 c.1,
        sum_grows per_partition_added a e (length es + 1) (omega arith) c.0 c.1,
        up_from (e + 1) es c.2,
      )

  down_from : (a : ℕ) (es : List ℕ) → Covers n a es → spans (λ i b f k. takes_of sums i k) a es + sum_at sums per_partition_saved a * length es ≡ down_by sums es
  unfolding down_by
  down_from a [] c = omega arith
  down_from a (e ∷ es) c =
      omega (
        arith,
        saved_by_sums sums n h a e c.0 c.1 (length es + 1),
        sum_grows per_partition_saved a e (length es + 1) (omega arith) c.0 c.1,
        down_from (e + 1) es c.2,
      )

-- from block 0 on, where the sums are 0
module _ (sums : List ℕ) (n : ℕ) (h : Holds sums n) (es : List ℕ) (c : Covers n 0 es) where
  pub up_by_ends : spans (adds_of sums) 0 es ≡ up_by sums 0 es
  up_by_ends = let u = rw (h.none per_partition_added (omega arith)) at (up_from sums n h.rising 0 es c) in omega arith

  pub down_by_ends : spans (λ i b f k. takes_of sums i k) 0 es ≡ down_by sums es
  down_by_ends = let u = rw (h.none per_partition_saved (omega arith)) at (down_from sums n h.rising 0 es c) in omega arith

-- x and y are the two sums of partitions at the end, r a local price
pub end_priced : (sums : List ℕ) (a e x y r : ℕ) → Holds sums (e + 1) → a ≤ e → x ≡ sum_at sums per_partition_added (e + 1) → y ≡ sum_at sums per_partition_saved (e + 1)
    → LocalPrice sums a e r → EndPriced sums a e (r + x - y)
end_priced sums a e x y r h u p q l =
    let s = span_most sums (e + 1) h a e u (omega arith) 0 (omega arith) in
    let i = l.added 0 in
    let f = h.few in
    let v = sum_small sums (e + 1) h per_partition_added (e + 1) (omega arith) (omega arith) in
    let w = sum_small sums (e + 1) h per_partition_saved (e + 1) (omega arith) (omega arith) in
    record { is = omega arith; high = omega arith; low = omega arith }
