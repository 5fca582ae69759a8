-- The cost of one block is what its terms say. Assumes nothing.
use mathlib.Core.Path.{◌≡◌, ap}
use mathlib.Core.List.{List}
use Prim.Native.Nat.{ℕ, ◌+◌, ◌*◌}
use native.Mathlib.Omega.{arith}
use native.Mathlib.Nat.{mul-add, add-mul, mul_right_comm}
use lib.IntN.{pos, ◌-ℤ◌, ◌*ℤ◌}
use Rattle.model.specs.declared.PriceCard.{PriceCard}
use Rattle.model.specs.Histograms.{Histogram, pq, rs, re, sc, de, ins, udf, utf, udb, utb, histograms, at, count}
use Rattle.model.specs.Layouts.{before, after, trailing}
use Rattle.model.specs.Cost.{point_price, ripple_price, price, sum_histograms}
use Rattle.model.proofs.Integers.{Is, is_pos, is_neg, is_add, is_mul, is_shift}
use Rattle.block_costs.specs.Terms.{fixed_of, per_block_before_of, per_block_after_of, per_partition_added_of, per_partition_saved_of}

-- the products of one count
module _ (r s w b f t c : ℕ) where
  point : (r + s * (b + f)) * c ≡ r * c + s * c * b + s * c * f
  point = omega (arith, add-mul r (s * (b + f)) c, mul_right_comm s (b + f) c, mul-add (s * c) b f)

  start : (r + s * b) * c ≡ r * c + s * c * b
  start = omega (arith, add-mul r (s * b) c, mul_right_comm s b c)

  finish : s * (1 + f) * c ≡ s * c + s * c * f
  finish = omega (arith, mul_right_comm s (1 + f) c, mul-add (s * c) 1 f)

  ripple : (r + w) * t * c ≡ (r + w) * c * t
  ripple = mul_right_comm (r + w) t c

  opened : (r + w) * (1 + t) * c ≡ (r + w) * c + (r + w) * c * t
  opened = omega (arith, mul_right_comm (r + w) (1 + t) c, mul-add ((r + w) * c) 1 t)

  removed : (r + s * (b + f) + w + (r + w) * t) * c ≡ (r + w) * c + s * c * b + s * c * f + (r + w) * c * t
  removed = omega (arith, add-mul (r + s * (b + f) + w) ((r + w) * t) c, add-mul (r + s * (b + f)) w c, point, ripple, add-mul r w c)

  moved : (r + s * (b + f) + r + 2 * w) * c ≡ 2 * ((r + w) * c) + s * c * b + s * c * f
  moved = omega (arith, add-mul (r + s * (b + f) + r) (2 * w) c, add-mul (r + s * (b + f)) r c, point, add-mul r w c, add-mul w w c, ap (λ (v : ℕ). v * c) two)
    where
      two : 2 * w ≡ w + w
      two = omega arith

  moved_on : (r + s * (b + f) + r + 2 * w + (r + w) * t) * c ≡ 2 * ((r + w) * c) + s * c * b + s * c * f + (r + w) * c * t
  moved_on = omega (arith, add-mul (r + s * (b + f) + r + 2 * w) ((r + w) * t) c, moved, ripple)

five : (s a b c d e x : ℕ) → s * (a + b + c + d + e) * x ≡ s * a * x + s * b * x + s * c * x + s * d * x + s * e * x
five s a b c d e x = simp (mul-add, add-mul)

four : (g a b c d x : ℕ) → g * (a + b + c + d) * x ≡ g * a * x + g * b * x + g * c * x + g * d * x
four g a b c d x = simp (mul-add, add-mul)

two : (g a b x : ℕ) → g * (a + b) * x ≡ g * a * x + g * b * x
two g a b x = simp (mul-add, add-mul)

-- the ten histograms' products, sorted by what they are multiplied with
sorted : (r s g b f t c0 c1 c2 c3 c4 c5 c6 c7 c8 c9 : ℕ)
    → ((r * c0 + s * c0 * b + s * c0 * f) + ((r * c1 + s * c1 * b) + ((s * c2 + s * c2 * f) + (s * c3 + ((g * c4 + s * c4 * b + s * c4 * f + g * c4 * t) + ((g * c5 + g * c5 * t)
    + ((2 * (g * c6) + s * c6 * b + s * c6 * f + g * c6 * t) + (0 + ((2 * (g * c8) + s * c8 * b + s * c8 * f) + (g * c9 * t + 0)))))))))) + g * (c7 + c8) * t
    ≡ (r * (c0 + c1) + s * (c2 + c3) + g * (c5 + c4) + 2 * (g * (c6 + c8)) + s * (c0 + c1 + c4 + c6 + c8) * b + s * (c0 + c2 + c4 + c6 + c8) * f + g * (c5 + c4 + c6 + c9) * t)
    + (0 + (0 + (0 + (0 + (0 + (0 + (0 + (g * c7 * t + (g * c8 * t + (0 + 0))))))))))
sorted r s g b f t c0 c1 c2 c3 c4 c5 c6 c7 c8 c9 =
    rw (five s c0 c1 c4 c6 c8 b, five s c0 c2 c4 c6 c8 f, four g c5 c4 c6 c9 t, two g c7 c8 t, mul-add r c0 c1, mul-add s c2 c3, mul-add g c5 c4, mul-add g c6 c8) (omega arith)

diff : (a b : ℕ) → Is (pos a -ℤ pos b) a b
diff a b = is_shift _ _ _ _ _ (is_add _ _ _ _ _ _ (is_pos a) (is_neg _ _ _ (is_pos b))) (omega arith)

times : (a c : ℕ) → Is (pos a *ℤ pos c) (a * c) 0
times a c = is_shift _ _ _ _ _ (is_mul _ _ _ c (is_pos a)) (omega arith)

module _ (L : ℕ) (p : PriceCard) (ends hs : List ℕ) (i : ℕ) where
  n : Histogram → ℕ
  n h = count L hs (at h i)

  -- 01's list: count times price, over the ten histograms
  pub block_cost :
      Is (sum_histograms histograms (λ (h : Histogram). price p ends h i *ℤ pos (count L hs (at h i))))
      (fixed_of L p hs i + per_block_before_of L p hs i * before ends i + per_block_after_of L p hs i * after ends i + per_partition_added_of L p hs i * trailing ends i)
      (per_partition_saved_of L p hs i * trailing ends i)
  unfolding sum_histograms price point_price ripple_price fixed_of per_block_before_of per_block_after_of per_partition_added_of per_partition_saved_of n
  block_cost =
      let r = p.rr in
      let s = p.sr in
      let w = p.«rw» in
      let b = before ends i in
      let f = after ends i in
      let t = trailing ends i in
      let i1 = is_shift _ _ _ (r * n pq + s * n pq * b + s * n pq * f) 0 (times (r + s * (b + f)) (n pq)) (omega (arith, point r s w b f t (n pq))) in
      let i2 = is_shift _ _ _ (r * n rs + s * n rs * b) 0 (times (r + s * b) (n rs)) (omega (arith, start r s w b f t (n rs))) in
      let i3 = is_shift _ _ _ (s * n re + s * n re * f) 0 (times (s * (1 + f)) (n re)) (omega (arith, finish r s w b f t (n re))) in
      let i4 = times s (n sc) in
      let i5 = is_shift _ _ _ ((r + w) * n de + s * n de * b + s * n de * f + (r + w) * n de * t) 0 (times (r + s * (b + f) + w + (r + w) * t) (n de)) (omega (arith, removed r s w b f t (n de))) in
      let i6 = is_shift _ _ _ ((r + w) * n ins + (r + w) * n ins * t) 0 (times ((r + w) * (1 + t)) (n ins)) (omega (arith, opened r s w b f t (n ins))) in
      let i7 = is_shift _ _ _ (2 * ((r + w) * n udf) + s * n udf * b + s * n udf * f + (r + w) * n udf * t) 0
      (times (r + s * (b + f) + r + 2 * w + (r + w) * t) (n udf)) (omega (arith, moved_on r s w b f t (n udf))) in
      let i8 = is_shift _ _ _ 0 ((r + w) * n utf * t) (is_mul _ _ _ (n utf) (is_neg _ _ _ (is_pos ((r + w) * t)))) (omega (arith, ripple r s w b f t (n utf))) in
      let i9 = is_shift _ _ _ (2 * ((r + w) * n udb) + s * n udb * b + s * n udb * f) ((r + w) * n udb * t)
      (is_mul _ _ _ (n udb) (diff (r + s * (b + f) + r + 2 * w) ((r + w) * t))) (omega (arith, moved r s w b f t (n udb), ripple r s w b f t (n udb))) in
      let i10 = is_shift _ _ _ ((r + w) * n utb * t) 0 (times ((r + w) * t) (n utb)) (omega (arith, ripple r s w b f t (n utb))) in
      is_shift _ _ _ _ _ (is_add _ _ _ _ _ _ i1 (is_add _ _ _ _ _ _ i2 (is_add _ _ _ _ _ _ i3 (is_add _ _ _ _ _ _ i4 (is_add _ _ _ _ _ _ i5
      (is_add _ _ _ _ _ _ i6 (is_add _ _ _ _ _ _ i7 (is_add _ _ _ _ _ _ i8 (is_add _ _ _ _ _ _ i9 (is_add _ _ _ _ _ _ i10 (is_pos 0)))))))))))
      (sorted r s (r + w) b f t (n pq) (n rs) (n re) (n sc) (n de) (n ins) (n udf) (n utf) (n udb) (n utb))
