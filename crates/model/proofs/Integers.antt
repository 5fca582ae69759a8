-- ℤ as differences of naturals, so that every law is one of sums. Assumes nothing.
use mathlib.Core.Path.{◌≡◌, refl, sym, ap, subst}
use mathlib.Core.Bool.{Bool, true, false, not, cond}
use Prim.Native.Nat.{ℕ, zero, suc, ◌+◌, ◌-◌, ◌*◌, ◌≤◌, ◌<◌}
use native.Mathlib.Omega.{arith}
use lib.Dec.{T, ltb, le→leb, leb→le, ltb→lt, nltb→le}
use lib.IntN.{ℤ, pos, negsuc, neg_ℤ, sub_ℕ, ◌+ℤ◌, ◌*ℤ◌}
use lib.Signed.{◌≤ℤ◌, lt_z, lt_z_no}

-- z is the difference p - m of two naturals
unfoldable pub Is : ℤ → ℕ → ℕ → Type 0
Is (pos n) p m = n + m ≡ p
Is (negsuc n) p m = p + suc n ≡ m

pub is_pos : (n : ℕ) → Is (pos n) n 0
unfolding Is
is_pos n = omega arith

pub is_exists : (z : ℤ) → (p : ℕ) × (m : ℕ) × Is z p m
unfolding Is
is_exists (pos n) = (n, 0, omega arith)
is_exists (negsuc n) = (0, suc n, omega arith)

sub_cases : (a b : ℕ) (t : Bool) → ltb a b ≡ t → Is (cond t (negsuc (b - suc a)) (pos (a - b))) a b
unfolding Is
sub_cases a b true e = let h : a < b = ltb→lt a b (subst T (sym e) tt) in omega arith
sub_cases a b false e = let h : b ≤ a = nltb→le a b (subst (λ (t : Bool). T (not t)) (sym e) tt) in omega arith

pub is_sub : (a b : ℕ) → Is (sub_ℕ a b) a b
is_sub a b = sub_cases a b (ltb a b) refl

pub is_shift : (z : ℤ) (p m q n : ℕ) → Is z p m → p + n ≡ q + m → Is z q n
unfolding Is
is_shift (pos k) p m q n h e = omega arith
is_shift (negsuc k) p m q n h e = omega arith

pub is_add : (y z : ℤ) (p m q n : ℕ) → Is y p m → Is z q n → Is (y +ℤ z) (p + q) (m + n)
unfolding Is
is_add (pos a) (pos b) p m q n h k = omega arith
is_add (pos a) (negsuc b) p m q n h k = is_shift (sub_ℕ a (suc b)) a (suc b) (p + q) (m + n) (is_sub a (suc b)) (omega arith)
is_add (negsuc a) (pos b) p m q n h k = is_shift (sub_ℕ b (suc a)) b (suc a) (p + q) (m + n) (is_sub b (suc a)) (omega arith)
is_add (negsuc a) (negsuc b) p m q n h k = omega arith

pub is_neg : (z : ℤ) (p m : ℕ) → Is z p m → Is (neg_ℤ z) m p
unfolding Is
is_neg (pos zero) p m h = omega arith
is_neg (pos (suc a)) p m h = omega arith
is_neg (negsuc a) p m h = omega arith

-- the pair's order is the order
pub le_is : (y z : ℤ) (p m q n : ℕ) → Is y p m → Is z q n → p + n ≤ q + m → y ≤ℤ z
unfolding Is
le_is (pos a) (pos b) p m q n h k l = record { le = le→leb a b (omega arith) }
le_is (pos a) (negsuc b) p m q n h k l = absurd (omega arith)
le_is (negsuc a) (pos b) p m q n h k l = record { le = tt }
le_is (negsuc a) (negsuc b) p m q n h k l = record { le = le→leb b a (omega arith) }

pub is_le : (y z : ℤ) (p m q n : ℕ) → Is y p m → Is z q n → y ≤ℤ z → p + n ≤ q + m
unfolding Is
is_le (pos a) (pos b) p m q n h k l = let g : a ≤ b = leb→le a b l.le in omega arith
is_le (pos a) (negsuc b) p m q n h k l = absurd l.le
is_le (negsuc a) (pos b) p m q n h k l = omega arith
is_le (negsuc a) (negsuc b) p m q n h k l = let g : b ≤ a = leb→le b a l.le in omega arith

-- equal pairs are equal integers
pub eq_is : (y z : ℤ) (p m q n : ℕ) → Is y p m → Is z q n → p + n ≡ q + m → y ≡ z
unfolding Is
eq_is (pos a) (pos b) p m q n h k l = ap pos (omega arith)
eq_is (pos a) (negsuc b) p m q n h k l = absurd (omega arith)
eq_is (negsuc a) (pos b) p m q n h k l = absurd (omega arith)
eq_is (negsuc a) (negsuc b) p m q n h k l = ap negsuc (omega arith)

pub is_mul : (z : ℤ) (p m k : ℕ) → Is z p m → Is (z *ℤ pos k) (p * k) (m * k)
unfolding Is
is_mul (pos a) p m k h = omega (arith, ap (λ (v : ℕ). v * k) h)
is_mul (negsuc a) p m k h = is_shift (neg_ℤ (pos (suc a * k))) 0 (suc a * k) (p * k) (m * k) (is_neg (pos (suc a * k)) (suc a * k) 0 (is_pos (suc a * k))) (omega (arith, ap (λ (v : ℕ). v * k) h))

-- a signed test that failed
pub nlt_le : (x y : ℤ) → lt_z x y ≡ false → y ≤ℤ x
nlt_le x y e = lt_z_no (subst (λ (t : Bool). T (not t)) (sym e) tt)
