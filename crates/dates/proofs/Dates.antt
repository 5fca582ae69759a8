-- Dates that exist: their numbers, the day after, and that no two have one number. Assumes nothing.
use Prim.Native.Nat.{ℕ, zero, suc, ◌+◌, ◌-◌, ◌*◌, ◌/◌, ◌≤◌, ◌<◌}
use mathlib.Core.Path.{◌≡◌, refl, sym, subst, ap, ◌∙◌}
use mathlib.Core.Bool.{Bool, true, false, cond, ◌&&◌}
use native.Mathlib.Omega.{arith}
use native.Mathlib.Decide.{dec_lt}
use lib.Dec.{T, leb, ltb, leb→le}
use borrow.Author.Tests.{ltb-true, ltb-false, le-leb}
use Rattle.model.proofs.Tests.{and_fst, and_snd}
use Rattle.model.specs.Bounds.{most_day}
use Rattle.model.specs.Calendar.{Date, date, is_leap, month_days, days_before_month, days_before_year, is_date, day_number, next_date, date_of}
use Rattle.dates.proofs.Months.{MonthFacts, month_facts, none_before, months_rise}
use Rattle.dates.proofs.Years.{year_number, next_year}

-- what is_date tests
pub record Real (y m d : ℕ) : Type 0 where
  pub year_least : 2000 ≤ y
  pub year_most : y ≤ 2099
  pub month_least : 1 ≤ m
  pub month_most : m ≤ 12
  pub day_least : 1 ≤ d
  pub day_most : d ≤ month_days (is_leap y) m

pub real : (y m d : ℕ) → T (is_date (date y m d)) → Real y m d
unfolding is_date
real y m d t =
    let a = leb 2000 y in
    let b = leb y 2099 in
    let e = leb 1 m in
    let f = leb m 12 in
    let g = leb 1 d in
    let h = leb d (month_days (is_leap y) m) in
    let ym = and_fst (a && b && (e && f)) (g && h) t in
    let ys = and_fst (a && b) (e && f) ym in
    let ms = and_snd (a && b) (e && f) ym in
    let ds = and_snd (a && b && (e && f)) (g && h) t in
    record {
      year_least = leb→le _ _ (and_fst a b ys);
      year_most = leb→le _ _ (and_snd a b ys);
      month_least = leb→le _ _ (and_fst e f ms);
      month_most = leb→le _ _ (and_snd e f ms);
      day_least = leb→le _ _ (and_fst g h ds);
      day_most = leb→le _ _ (and_snd g h ds);
    }

pub unreal : (y m d : ℕ) → Real y m d → T (is_date (date y m d))
unfolding is_date
unreal y m d r =
    rw (
      le-leb 2000 y r.year_least,
      le-leb y 2099 r.year_most,
      le-leb 1 m r.month_least,
      le-leb m 12 r.month_most,
      le-leb 1 d r.day_least,
      le-leb d (month_days (is_leap y) m) r.day_most,
    )
    tt

-- the number of a date, within its month and its year
pub record Placed (y m d : ℕ) : Type 0 where
  pub number : day_number (date y m d) + 1 ≡ days_before_year y + days_before_month (is_leap y) m + d
  pub month : MonthFacts (is_leap y) m
  pub in_year : days_before_month (is_leap y) (m + 1) ≤ days_before_month (is_leap y) 13
  pub this : days_before_year y ≡ (1461 * (y - 2000) + 3) / 4
  pub then : days_before_year (y + 1) ≡ (1461 * (y + 1 - 2000) + 3) / 4
  pub next : days_before_year (y + 1) ≡ days_before_year y + days_before_month (is_leap y) 13

pub placed : (y m d : ℕ) → Real y m d → Placed y m d
unfolding day_number
placed y m d r =
    record {
      number = omega arith;
      month = month_facts (is_leap y) m r.month_least r.month_most;
      in_year = months_rise (is_leap y) (m + 1) 13 (omega arith) (omega arith) (omega arith);
      this = year_number y (omega arith) (omega arith);
      then = year_number (y + 1) (omega arith) (omega arith);
      next = next_year y r.year_least r.year_most;
    }

pub day_most : (y m d : ℕ) → Real y m d → day_number (date y m d) ≤ most_day
day_most y m d r = omega (arith, placed y m d r)

-- the day after: it exists while the last day is not passed, and has the next number
pub record Follows (n : ℕ) (t : Date) : Type 0 where
  pub exists : Real t.year t.month t.day
  pub number : day_number t ≡ n

pub follows : (n y m d : ℕ) → n < most_day → Real y m d → day_number (date y m d) ≡ n → Follows (n + 1) (next_date (date y m d))
unfolding next_date
follows n y m d h r e = go (ltb d (month_days (is_leap y) m)) refl (ltb m 12) refl
  where
    p : Placed y m d
    p = placed y m d r

    go : (a : Bool) → ltb d (month_days (is_leap y) m) ≡ a → (b : Bool) → ltb m 12 ≡ b → Follows (n + 1) (cond a (date y m (d + 1)) (cond b (date y (m + 1) 1) (date (y + 1) 1 1)))
    go true i b j =
        let w : d < month_days (is_leap y) m = ltb-true _ _ i in
        let r' : Real y m (d + 1) = record {
          year_least = r.year_least;
          year_most = r.year_most;
          month_least = r.month_least;
          month_most = r.month_most;
          day_least = omega arith;
          day_most = omega arith;
        } in
        record { exists = r'; number = omega (arith, p.number, (placed y m (d + 1) r').number) }
    go false i true j =
        let w : month_days (is_leap y) m ≤ d = ltb-false _ _ i in
        let u : m < 12 = ltb-true _ _ j in
        let f = month_facts (is_leap y) (m + 1) (omega arith) (omega arith) in
        let r' : Real y (m + 1) 1 = record {
          year_least = r.year_least;
          year_most = r.year_most;
          month_least = omega arith;
          month_most = omega arith;
          day_least = omega arith;
          day_most = omega (arith, f.least);
        } in
        record { exists = r'; number = omega (arith, r.day_most, p.number, p.month.next, (placed y (m + 1) 1 r').number) }
    go false i false j =
        let w : month_days (is_leap y) m ≤ d = ltb-false _ _ i in
        let x : 12 ≤ m = ltb-false _ _ j in
        let u : m ≡ 12 = omega (arith, r.month_most) in
        let last : days_before_month (is_leap y) (m + 1) ≡ days_before_month (is_leap y) 13 = ap (λ (k : ℕ). days_before_month (is_leap y) (k + 1)) u in
        let v : y < 2099 = omega (arith, r.day_most, p.number, p.month.next, last, p.next, p.then) in
        let f = month_facts (is_leap (y + 1)) 1 (omega arith) (omega arith) in
        let r' : Real (y + 1) 1 1 = record {
          year_least = omega (arith, r.year_least);
          year_most = omega arith;
          month_least = omega arith;
          month_most = omega arith;
          day_least = omega arith;
          day_most = omega (arith, f.least);
        } in
        record { exists = r'; number = omega (arith, r.day_most, p.number, p.month.next, last, p.next, none_before (is_leap (y + 1)), (placed (y + 1) 1 1 r').number) }

-- the date of a number exists and has that number
pub reached : (n : ℕ) → n ≤ most_day → Follows n (date_of n)
unfolding date_of
reached zero h = record { exists = r; number = omega (arith, placed 2000 1 1 r, none_before (is_leap 2000)) }
  where
    r : Real 2000 1 1
    r = record {
      year_least = omega arith;
      year_most = omega arith;
      month_least = omega arith;
      month_most = omega arith;
      day_least = omega arith;
      day_most = omega (arith, month_facts (is_leap 2000) 1 (omega arith) (omega arith));
    }
reached (suc n) h =
    let f = reached n (omega arith) in
    let e : n + 1 ≡ suc n = omega arith in
    subst (λ (k : ℕ). Follows k (next_date (date_of n))) e (follows n (date_of n).year (date_of n).month (date_of n).day h f.exists f.number)

-- numbers that do not fall: neither does the year, in one year the month, in one month the day
pub year_le : (y m d y' m' d' : ℕ) → Real y m d → Real y' m' d' → day_number (date y m d) ≤ day_number (date y' m' d') → y ≤ y'
year_le y m d y' m' d' r r' h =
    let p = placed y m d r in
    let q = placed y' m' d' r' in
    omega arith

pub month_le : (y m d m' d' : ℕ) → Real y m d → Real y m' d' → day_number (date y m d) ≤ day_number (date y m' d') → m ≤ m'
month_le y m d m' d' r r' h = go (dec_lt m' m)
  where
    go : Dec (m' < m) → m ≤ m'
    go (no n) = omega arith
    go (yes n) =
        let p = placed y m d r in
        let q = placed y m' d' r' in
        let z : ⊥ = omega (arith, months_rise (is_leap y) (m' + 1) m (omega arith) (omega arith) (omega arith)) in
        absurd z

pub day_le : (y m d d' : ℕ) → Real y m d → Real y m d' → day_number (date y m d) ≤ day_number (date y m d') → d ≤ d'
day_le y m d d' r r' h = omega (arith, (placed y m d r).number, (placed y m d' r').number)

-- no two dates have one number
pub one_date : (y m d y' m' d' : ℕ) → Real y m d → Real y' m' d' → day_number (date y m d) ≡ day_number (date y' m' d') → date y m d ≡ date y' m' d'
one_date y m d y' m' d' r r' e = years y' m' d' r' e (omega (arith, year_le y m d y' m' d' r r' (omega arith), year_le y' m' d' y m d r' r (omega arith)))
  where
    days : (d' : ℕ) → Real y m d' → day_number (date y m d) ≡ day_number (date y m d') → date y m d ≡ date y m d'
    days d' r' e = ap (date y m) (let z : d ≡ d' = omega (arith, day_le y m d d' r r' (omega arith), day_le y m d' d r' r (omega arith)) in z)

    months : (m' d' : ℕ) → Real y m' d' → day_number (date y m d) ≡ day_number (date y m' d') → m ≡ m' → date y m d ≡ date y m' d'
    months m' d' r' e q = subst (λ (i : ℕ). Real y i d' → day_number (date y m d) ≡ day_number (date y i d') → date y m d ≡ date y i d') q (days d') r' e

    years : (y' m' d' : ℕ) → Real y' m' d' → day_number (date y m d) ≡ day_number (date y' m' d') → y ≡ y' → date y m d ≡ date y' m' d'
    years y' m' d' r' e q =
        subst (λ (i : ℕ). Real i m' d' → day_number (date y m d) ≡ day_number (date i m' d') → date y m d ≡ date i m' d') q
        (λ s f. months m' d' s f (omega (arith, month_le y m d m' d' r s (omega arith), month_le y m' d' m d s r (omega arith))))
        r' e

-- so a date that exists and has the number is the date of the number
pub the_date : (n y m d : ℕ) → Real y m d → day_number (date y m d) ≡ n → date_of n ≡ date y m d
the_date n y m d r e =
    let f = reached n (omega (arith, day_most y m d r)) in
    one_date (date_of n).year (date_of n).month (date_of n).day y m d f.exists r (f.number ∙ sym e)
