-- The months of a year, leap or not: each law is a test, computed at every month or at every day of the year. Assumes nothing.
use Prim.Native.Nat.{ℕ, zero, suc, ◌+◌, ◌-◌, ◌*◌, ◌/◌, ◌≤◌, ◌<◌}
use mathlib.Core.Path.{◌≡◌, refl, subst}
use mathlib.Core.Bool.{Bool, true, false, cond, ◌&&◌}
use native.Mathlib.Omega.{arith}
use native.Mathlib.Nat.{add-zero}
use lib.Dec.{T, leb, ltb, eqb, leb→le, ltb→lt, eqb→eq}
use borrow.Author.Tests.{lt-ltb, le-ltb, le-leb, lt-leb}
use Rattle.model.specs.Lists.{sum_of}
use Rattle.model.proofs.Tests.{and_fst, and_snd}
use Rattle.model.specs.Calendar.{month_lengths, month_days, days_before_month}
use Rattle.dates.specs.Parts.{MonthAt}
use Rattle.dates.proofs.Ranges.{every_from, within}

-- a month has 28 to 31 days, and the next one begins after them
pub record MonthFacts (b : Bool) (m : ℕ) : Type 0 where
  pub least : 28 ≤ month_days b m
  pub most : month_days b m ≤ 31
  pub next : days_before_month b (m + 1) ≡ days_before_month b m + month_days b m

fits : Bool → ℕ → Bool
fits b m = leb 28 (month_days b m) && leb (month_days b m) 31 && eqb (days_before_month b (m + 1)) (days_before_month b m + month_days b m)

fits_all : (b : Bool) → T (every_from (fits b) 1 12)
unfolding fits month_days days_before_month month_lengths sum_of
fits_all true = tt
fits_all false = tt

pub month_facts : (b : Bool) (m : ℕ) → 1 ≤ m → m ≤ 12 → MonthFacts b m
unfolding fits
month_facts b m l h =
    let t = within (fits b) 1 12 (fits_all b) m l (omega arith) in
    let x = leb 28 (month_days b m) in
    let y = leb (month_days b m) 31 in
    let z = eqb (days_before_month b (m + 1)) (days_before_month b m + month_days b m) in
    record {
      least = leb→le _ _ (and_fst x y (and_fst (x && y) z t));
      most = leb→le _ _ (and_snd x y (and_fst (x && y) z t));
      next = eqb→eq _ _ (and_snd (x && y) z t);
    }

-- the first month begins the year; a later month never begins earlier
pub none_before : (b : Bool) → days_before_month b 1 ≡ 0
unfolding days_before_month sum_of
none_before b = refl

rises_by : (b : Bool) (m j : ℕ) → 1 ≤ m → m + j ≤ 13 → days_before_month b m ≤ days_before_month b (m + j)
rises_by b m zero l h = rw add-zero (omega arith)
rises_by b m (suc j) l h =
    let e : m + suc j ≡ m + j + 1 = omega arith in
    let f = month_facts b (m + j) (omega arith) (omega arith) in
    rw e (omega (arith, rises_by b m j l (omega arith), f.next))

pub months_rise : (b : Bool) (m k : ℕ) → 1 ≤ m → m ≤ k → k ≤ 13 → days_before_month b m ≤ days_before_month b k
months_rise b m k l h u = subst (λ (i : ℕ). days_before_month b m ≤ days_before_month b i) (let e : m + (k - m) ≡ k = omega arith in e) (rises_by b m (k - m) l (omega arith))

-- the code's count of the days before a month, up to month 13: as if February had 30
abbrev pub counted : Bool → ℕ → ℕ
counted b m = (367 * m - 362) / 12 - cond (leb m 2) 0 (cond b 1 2)

counts : Bool → ℕ → Bool
counts b m = eqb (counted b m) (days_before_month b m)

counts_all : (b : Bool) → T (every_from (counts b) 1 13)
unfolding counts days_before_month month_lengths sum_of
counts_all true = tt
counts_all false = tt

pub month_counted : (b : Bool) (m : ℕ) → 1 ≤ m → m ≤ 13 → counted b m ≡ days_before_month b m
unfolding counts
month_counted b m l h = eqb→eq _ _ (within (counts b) 1 13 (counts_all b) m l (omega arith))

-- the same, as each of the code's two ways counts
pub counted_first : (b : Bool) (m : ℕ) → 1 ≤ m → m ≤ 2 → (367 * m - 362) / 12 ≡ days_before_month b m
counted_first b m l h = omega (arith, rw (le-leb m 2 h) at (month_counted b m l (omega arith)))

pub counted_later : (b : Bool) (m : ℕ) → 2 < m → m ≤ 13 → (367 * m - 362) / 12 - cond b 1 2 ≡ days_before_month b m
counted_later b m l h = rw (lt-leb m 2 l) at (month_counted b m (omega arith) h)

-- how much later than in a February of 30 days the code takes day n of a year
abbrev pub shift : Bool → ℕ → ℕ
shift b n = cond (ltb (n + cond b 1 2) 61) 0 (cond b 1 2)

-- its month of that day
abbrev pub month_of : Bool → ℕ → ℕ
month_of b n = (12 * (n + shift b n) + 373) / 367

is_month_at : Bool → ℕ → ℕ → Bool
is_month_at b n m = leb 1 m && leb m 12 && (leb (days_before_month b m) n && ltb n (days_before_month b (m + 1)))

month_at : (b : Bool) (n m : ℕ) → T (is_month_at b n m) → MonthAt b n m
unfolding is_month_at
month_at b n m t =
    let w = leb 1 m in
    let x = leb m 12 in
    let y = leb (days_before_month b m) n in
    let z = ltb n (days_before_month b (m + 1)) in
    record {
      least = leb→le _ _ (and_fst w x (and_fst (w && x) (y && z) t));
      most = leb→le _ _ (and_snd w x (and_fst (w && x) (y && z) t));
      begun = leb→le _ _ (and_fst y z (and_snd (w && x) (y && z) t));
      not_over = ltb→lt _ _ (and_snd y z (and_snd (w && x) (y && z) t));
    }

finds : Bool → ℕ → Bool
finds b n = is_month_at b n (month_of b n)

finds_leap : T (every_from (finds true) 0 366)
unfolding finds is_month_at days_before_month month_lengths sum_of
finds_leap = tt

finds_other : T (every_from (finds false) 0 365)
unfolding finds is_month_at days_before_month month_lengths sum_of
finds_other = tt

pub year_length : (b : Bool) → days_before_month b 13 ≡ cond b 366 365
unfolding days_before_month month_lengths sum_of
year_length true = refl
year_length false = refl

pub month_found : (b : Bool) (n : ℕ) → n < days_before_month b 13 → MonthAt b n (month_of b n)
unfolding finds
month_found true n h = month_at true n _ (within (finds true) 0 366 finds_leap n (omega arith) (omega (arith, year_length true)))
month_found false n h = month_at false n _ (within (finds false) 0 365 finds_other n (omega arith) (omega (arith, year_length false)))

pub year_most : (b : Bool) → days_before_month b 13 ≤ 366
year_most true = omega (arith, year_length true)
year_most false = omega (arith, year_length false)

pub month_small : (b : Bool) (m : ℕ) → 1 ≤ m → m ≤ 13 → days_before_month b m ≤ 366
month_small b m l h = omega (arith, months_rise b m 13 l h (omega arith), year_most b)

-- the same, as each of the code's two ways finds it
pub found_early : (b : Bool) (n : ℕ) → n + cond b 1 2 < 61 → n < days_before_month b 13 → MonthAt b n ((12 * (n + 0) + 373) / 367)
found_early b n l h = rw (lt-ltb (n + cond b 1 2) 61 l) at (month_found b n h)

pub found_late : (b : Bool) (n : ℕ) → 61 ≤ n + cond b 1 2 → n < days_before_month b 13 → MonthAt b n ((12 * (n + cond b 1 2) + 373) / 367)
found_late b n l h = rw (le-ltb (n + cond b 1 2) 61 l) at (month_found b n h)
