-- Sums over blocks. Assumes nothing.
use mathlib.Core.Path.{◌≡◌, refl, ap, ap₂}
use Prim.Native.Nat.{ℕ, zero, suc, ◌+◌, ◌*◌, ◌≤◌, ◌<◌}
use native.Mathlib.Omega.{arith}
use native.Mathlib.Nat.{add-mul}
use Rattle.layout_search.specs.Sums.{sum}

pub sum_none : (f : ℕ → ℕ) (s c : ℕ) → c ≡ 0 → sum f s c ≡ 0
unfolding sum
sum_none f s c e = rw e refl

pub sum_split : (f : ℕ → ℕ) (s c d : ℕ) → sum f s (c + d) ≡ sum f s c + sum f (s + c) d
unfolding sum
sum_split f s c zero = let p : c + 0 ≡ c = omega arith in rw p (omega arith)
sum_split f s c (suc d) =
    let p : c + suc d ≡ suc (c + d) = omega arith in
    let q : f (s + (c + d)) ≡ f (s + c + d) = ap f (omega arith) in
    rw p (omega (arith, sum_split f s c d))

pub sum_cong : (f g : ℕ → ℕ) (s c : ℕ) → ((i : ℕ) → s ≤ i → i < s + c → f i ≡ g i) → sum f s c ≡ sum g s c
unfolding sum
sum_cong f g s zero h = refl
sum_cong f g s (suc c) h = ap₂ (λ (x y : ℕ). x + y) (sum_cong f g s c (λ i u v. h i u (omega arith))) (h (s + c) (omega arith) (omega arith))

pub sum-add : (f g : ℕ → ℕ) (s c : ℕ) → sum (λ i. f i + g i) s c ≡ sum f s c + sum g s c
unfolding sum
sum-add f g s zero = refl
sum-add f g s (suc c) = omega (arith, sum-add f g s c)

pub sum_times : (f : ℕ → ℕ) (k s c : ℕ) → sum (λ i. f i * k) s c ≡ sum f s c * k
unfolding sum
sum_times f k s zero = omega arith
sum_times f k s (suc c) = omega (arith, sum_times f k s c, add-mul (sum f s c) (f (s + c)) k)

pub sum_most : (m : ℕ) (f : ℕ → ℕ) (s c : ℕ) → ((i : ℕ) → s ≤ i → i < s + c → f i ≤ m) → sum f s c ≤ c * m
unfolding sum
sum_most m f s zero h = omega arith
sum_most m f s (suc c) h = omega (arith, sum_most m f s c (λ i u v. h i u (omega arith)), h (s + c) (omega arith) (omega arith), add-mul c 1 m)
