-- The years from 2000 to 2099: computed at each. Assumes nothing.
use Prim.Native.Nat.{ℕ, ◌+◌, ◌-◌, ◌*◌, ◌/◌, ◌%◌, ◌≤◌, ◌<◌}
use mathlib.Core.Path.{◌≡◌}
use mathlib.Core.Bool.{Bool, beq}
use native.Mathlib.Omega.{arith}
use lib.Dec.{T, eqb, eqb→eq}
use Rattle.model.specs.Lists.{sum_of, up_from}
use Rattle.model.specs.Calendar.{is_leap, month_lengths, year_days, days_before_month, days_before_year}
use Rattle.dates.proofs.Ranges.{every_from, within, beq→eq}

fourth : ℕ → Bool
fourth k = beq (eqb (k % 4) 0) (is_leap (2000 + k))

fourth_all : T (every_from fourth 0 100)
unfolding fourth is_leap
fourth_all = tt

pub leap_fourth : (k : ℕ) → k < 100 → eqb (k % 4) 0 ≡ is_leap (2000 + k)
unfolding fourth
leap_fourth k h = beq→eq _ _ (within fourth 0 100 fourth_all k (omega arith) h)

counts : ℕ → Bool
counts k = eqb ((1461 * k + 3) / 4) (days_before_year (2000 + k))

counts_all : T (every_from counts 0 101)
unfolding counts days_before_year year_days is_leap month_lengths sum_of up_from
counts_all = tt

pub year_counted : (k : ℕ) → k ≤ 100 → (1461 * k + 3) / 4 ≡ days_before_year (2000 + k)
unfolding counts
year_counted k h = eqb→eq _ _ (within counts 0 101 counts_all k (omega arith) (omega arith))

-- the same of a year by its own number
pub year_number : (y : ℕ) → 2000 ≤ y → y ≤ 2100 → days_before_year y ≡ (1461 * (y - 2000) + 3) / 4
year_number y l h = rw (let e : y ≡ 2000 + (y - 2000) = omega arith in e) (go (y - 2000) (omega arith))
  where
    go : (k : ℕ) → k ≤ 100 → days_before_year (2000 + k) ≡ (1461 * (2000 + k - 2000) + 3) / 4
    go k h = omega (arith, year_counted k h)

-- the year that follows begins after this one's days
follows : ℕ → Bool
follows y = eqb (days_before_year (y + 1)) (days_before_year y + days_before_month (is_leap y) 13)

follows_all : T (every_from follows 2000 100)
unfolding follows days_before_year year_days days_before_month is_leap month_lengths sum_of up_from
follows_all = tt

pub next_year : (y : ℕ) → 2000 ≤ y → y ≤ 2099 → days_before_year (y + 1) ≡ days_before_year y + days_before_month (is_leap y) 13
unfolding follows
next_year y l h = eqb→eq _ _ (within follows 2000 100 follows_all y l (omega arith))
