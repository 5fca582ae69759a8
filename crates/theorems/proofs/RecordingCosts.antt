-- The cost as a difference of two weighted sums. Assumes nothing.
use Prim.Native.Nat.{ℕ, zero, suc, ◌+◌, ◌*◌}
use mathlib.Core.List.{List, [], ◌∷◌}
use native.Mathlib.Omega.{arith}
use lib.IntN.{ℤ, pos, neg_ℤ, ◌-ℤ◌}
use Rattle.model.specs.declared.PriceCard.{PriceCard}
use Rattle.model.specs.Layouts.{before, after, trailing}
use Rattle.model.specs.Histograms.{Histogram, pq, rs, re, sc, de, ins, udf, utf, udb, utb, histograms, at, count}
use Rattle.model.specs.Cost.{point_price, ripple_price, price, sum_blocks, sum_histograms, cost_of}
use Rattle.model.proofs.Integers.{Is, is_pos, is_neg, is_add, is_mul, is_shift}
use Rattle.theorems.proofs.RecordingSums.{sum_to, over, weigh}

-- what one count adds to the cost, and what it takes away
unfoldable pub plus : PriceCard → List ℕ → Histogram → ℕ → ℕ
plus c ends pq i = point_price c ends i
plus c ends rs i = c.rr + c.sr * before ends i
plus c ends re i = c.sr * (1 + after ends i)
plus c ends sc i = c.sr
plus c ends ins i = (c.rr + c.«rw») * (1 + trailing ends i)
plus c ends de i = point_price c ends i + c.«rw» + ripple_price c ends i
plus c ends udf i = point_price c ends i + c.rr + 2 * c.«rw» + ripple_price c ends i
plus c ends utf i = 0
plus c ends udb i = point_price c ends i + c.rr + 2 * c.«rw»
plus c ends utb i = ripple_price c ends i

unfoldable pub minus : PriceCard → List ℕ → Histogram → ℕ → ℕ
minus c ends pq i = 0
minus c ends rs i = 0
minus c ends re i = 0
minus c ends sc i = 0
minus c ends ins i = 0
minus c ends de i = 0
minus c ends udf i = 0
minus c ends utf i = ripple_price c ends i
minus c ends udb i = ripple_price c ends i
minus c ends utb i = 0

is_price : (c : PriceCard) (ends : List ℕ) (h : Histogram) (i : ℕ) → Is (price c ends h i) (plus c ends h i) (minus c ends h i)
unfolding price plus minus
is_price c ends pq i = is_pos _
is_price c ends rs i = is_pos _
is_price c ends re i = is_pos _
is_price c ends sc i = is_pos _
is_price c ends ins i = is_pos _
is_price c ends de i = is_pos _
is_price c ends udf i = is_pos _
is_price c ends utf i = is_neg (pos (ripple_price c ends i)) (ripple_price c ends i) 0 (is_pos (ripple_price c ends i))
is_price c ends udb i =
    let a : ℕ = point_price c ends i + c.rr + 2 * c.«rw» in
    let b : ℕ = ripple_price c ends i in
    is_shift (pos a -ℤ pos b) (a + 0) (0 + b) a b (is_add (pos a) (neg_ℤ (pos b)) a 0 0 b (is_pos a) (is_neg (pos b) b 0 (is_pos b))) (omega arith)
is_price c ends utb i = is_pos _

is_over : (l : List Histogram) (f : Histogram → ℤ) (p m : Histogram → ℕ) → ((h : Histogram) → Is (f h) (p h) (m h)) → Is (sum_histograms l f) (over l p) (over l m)
unfolding sum_histograms over
is_over [] f p m e = is_pos 0
is_over (h ∷ l) f p m e = is_add (f h) (sum_histograms l f) _ _ _ _ (e h) (is_over l f p m e)

is_sum : (n : ℕ) (f : ℕ → ℤ) (p m : ℕ → ℕ) → ((i : ℕ) → Is (f i) (p i) (m i)) → Is (sum_blocks n f) (sum_to n p) (sum_to n m)
unfolding sum_blocks sum_to
is_sum zero f p m e = is_pos 0
is_sum (suc n) f p m e = is_add (sum_blocks n f) (f n) _ _ _ _ (is_sum n f p m e) (e n)

module _ (L : ℕ) where
  pub is_cost : (c : PriceCard) (n : ℕ) (ends hs : List ℕ) → Is (cost_of L c n ends hs) (weigh L (plus c ends) n hs) (weigh L (minus c ends) n hs)
  unfolding cost_of weigh
  is_cost c n ends hs = is_sum n _ _ _ (λ i. is_over histograms _ _ _ (λ h. is_mul (price c ends h i) (plus c ends h i) (minus c ends h i) (count L hs (at h i)) (is_price c ends h i)))
