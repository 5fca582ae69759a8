-- 2 ^ 60 taken off a biased number. Assumes nothing.
use mathlib.Core.Path.{◌≡◌, ◌∙◌}
use Prim.Native.Nat.{ℕ, ◌^◌, ◌<◌}
use native.Mathlib.Omega.{arith}
use lib.IntN.{ℤ, pos, negsuc, sub_ℕ, ◌-ℤ◌}
use mir.Syntax.{w64}
use mir.Val.{SFits, to_z, of_z}
use mir.Facts.{to_z_pos, to_z-of_z}
use Rattle.model.proofs.Integers.{Is, is_sub, eq_is, is_add, is_neg, is_pos}

sfits_is : (z : ℤ) (p m : ℕ) → Is z p m → p < 2 ^ 63 → m < 2 ^ 63 → SFits w64 z
unfolding Is
sfits_is (pos n) p m h u v = record { sfits = omega arith }
sfits_is (negsuc n) p m h u v = record { sfits = omega arith }

module _ (m : ℕ) (h : m < 2 ^ 62) where
  off_is : to_z w64 m -ℤ pos (2 ^ 60) ≡ sub_ℕ m (2 ^ 60)
  off_is = rw (to_z_pos w64 {n = m} (omega arith)) (eq_is _ _ _ _ _ _ (is_add _ _ _ _ _ _ (is_pos m) (is_neg _ _ _ (is_pos (2 ^ 60)))) (is_sub m (2 ^ 60)) (omega arith))

  pub unbiased_fits : SFits w64 (to_z w64 m -ℤ pos (2 ^ 60))
  unbiased_fits = rw off_is (sfits_is _ _ _ (is_sub m (2 ^ 60)) (omega arith) (omega arith))

  pub unbiased_is : to_z w64 (of_z w64 (to_z w64 m -ℤ pos (2 ^ 60))) ≡ sub_ℕ m (2 ^ 60)
  unbiased_is = to_z-of_z unbiased_fits ∙ off_is

-- such a cost held in an i64
pub held-cost : (m : ℕ) → m < 2 ^ 62 → (z : ℤ) → z ≡ sub_ℕ m (2 ^ 60) → to_z w64 (of_z w64 z) ≡ sub_ℕ m (2 ^ 60)
held-cost m h z e = to_z-of_z {w = w64} (rw e (sfits_is _ _ _ (is_sub m (2 ^ 60)) (omega arith) (omega arith))) ∙ e
