-- The cost of a layout (01: the bill), in ℤ.
use Rattle.std.specs.Prelude.{ℕ, zero, suc, ◌+◌, ◌*◌, List, [], ◌∷◌, ℤ, pos, neg_ℤ, ◌+ℤ◌, ◌-ℤ◌, ◌*ℤ◌}
use Rattle.model.specs.declared.PriceCard.{PriceCard}
use Rattle.model.specs.Histograms.{Histogram, pq, rs, re, sc, de, ins, udf, utf, udb, utb, histograms, at, count}
use Rattle.model.specs.Layouts.{before, after, trailing}

-- "pq: RR + SR × (b + f)"
unfoldable pub point_price : PriceCard → List ℕ → ℕ → ℕ
point_price c ends i = c.rr + c.sr * (before ends i + after ends i)

-- "(RR + RW) × t"
unfoldable pub ripple_price : PriceCard → List ℕ → ℕ → ℕ
ripple_price c ends i = (c.rr + c.«rw») * trailing ends i

-- what one count of a histogram at block i costs: 01's list
unfoldable pub price : PriceCard → List ℕ → Histogram → ℕ → ℤ
price c ends pq i = pos (point_price c ends i)
price c ends rs i = pos (c.rr + c.sr * before ends i)
price c ends re i = pos (c.sr * (1 + after ends i))
price c ends sc i = pos c.sr
price c ends ins i = pos ((c.rr + c.«rw») * (1 + trailing ends i))
price c ends de i = pos (point_price c ends i + c.«rw» + ripple_price c ends i)
price c ends udf i = pos (point_price c ends i + c.rr + 2 * c.«rw» + ripple_price c ends i)
price c ends utf i = neg_ℤ (pos (ripple_price c ends i))
price c ends udb i = pos (point_price c ends i + c.rr + 2 * c.«rw») -ℤ pos (ripple_price c ends i)
price c ends utb i = pos (ripple_price c ends i)

-- f 0 + .. + f (n - 1), and f summed over histograms
unfoldable pub sum_blocks : ℕ → (ℕ → ℤ) → ℤ
sum_blocks zero f = pos 0
sum_blocks (suc n) f = sum_blocks n f +ℤ f n

unfoldable pub sum_histograms : List Histogram → (Histogram → ℤ) → ℤ
sum_histograms [] f = pos 0
sum_histograms (h ∷ l) f = f h +ℤ sum_histograms l f

-- "the bill sums, count times price, over blocks 0 to N - 1": n blocks, block limit L
unfoldable pub cost_of : ℕ → PriceCard → ℕ → List ℕ → List ℕ → ℤ
cost_of L c n ends hs = sum_blocks n (λ (i : ℕ). sum_histograms histograms (λ (h : Histogram). price c ends h i *ℤ pos (count L hs (at h i))))
