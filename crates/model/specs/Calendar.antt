-- The Gregorian calendar from 2000 to 2099 (02: Slip 7): dates, and day numbers as plain counts of days.
use Rattle.std.specs.Prelude.{ℕ, zero, suc, ◌+◌, ◌-◌, ◌%◌, Bool, cond, not, ◌&&◌, ◌||◌, List, [], ◌∷◌, map, take, get_or, leb, ltb, eqb}
use Rattle.model.specs.Lists.{sum_of, up_from}

-- "0 is 1 January 2000, 36,524 is 31 December 2099"
abbrev pub first_year : ℕ
first_year = 2000

abbrev pub last_year : ℕ
last_year = 2099

-- day numbers from first to last, both counted
pub record Span : Type 0 where
  pub first : ℕ
  pub last : ℕ

abbrev pub span : ℕ → ℕ → Span
span a e = record { first = a; last = e }

abbrev pub is_in : Span → ℕ → Bool
is_in s n = leb s.first n && leb n s.last

-- a date, whether it exists or not; January is month 1
pub record Date : Type 0 where
  pub year : ℕ
  pub month : ℕ
  pub day : ℕ

abbrev pub date : ℕ → ℕ → ℕ → Date
date y m d = record { year = y; month = m; day = d }

-- "by the Gregorian calendar": a leap year is divisible by 4, and not by 100 unless by 400
unfoldable pub is_leap : ℕ → Bool
is_leap y = eqb (y % 4) 0 && (not (eqb (y % 100) 0) || eqb (y % 400) 0)

-- the lengths of the months, January first, of a leap year and of any other
unfoldable pub month_lengths : Bool → List ℕ
month_lengths leap = 31 ∷ cond leap 29 28 ∷ 31 ∷ 30 ∷ 31 ∷ 30 ∷ 31 ∷ 31 ∷ 30 ∷ 31 ∷ 30 ∷ 31 ∷ []

-- the days of month m, of the months before it, of the year
unfoldable pub month_days : Bool → ℕ → ℕ
month_days leap m = get_or (month_lengths leap) (m - 1) 0

unfoldable pub days_before_month : Bool → ℕ → ℕ
days_before_month leap m = sum_of (take (m - 1) (month_lengths leap))

unfoldable pub year_days : ℕ → ℕ
year_days y = sum_of (month_lengths (is_leap y))

-- the days of the years 2000 to y - 1
unfoldable pub days_before_year : ℕ → ℕ
days_before_year y = sum_of (map year_days (up_from first_year (y - first_year)))

-- does the date exist, and lie in 2000 to 2099? ("a date that does not exist or lies outside 2000 to 2099")
unfoldable pub is_date : Date → Bool
is_date t =
    leb first_year t.year && leb t.year last_year
    && (leb 1 t.month && leb t.month 12)
    && (leb 1 t.day && leb t.day (month_days (is_leap t.year) t.month))

-- the day number of a date: how many days come before it, from 1 January 2000 on
unfoldable pub day_number : Date → ℕ
day_number t = days_before_year t.year + days_before_month (is_leap t.year) t.month + (t.day - 1)

-- the day after: the next day of the month, or else the first of the next month, or else of the next year
unfoldable pub next_date : Date → Date
next_date t =
    cond (ltb t.day (month_days (is_leap t.year) t.month))
    (date t.year t.month (t.day + 1))
    (cond (ltb t.month 12) (date t.year (t.month + 1) 1) (date (t.year + 1) 1 1))

-- the date of a day number: that many days after 1 January 2000
unfoldable pub date_of : ℕ → Date
date_of zero = date first_year 1 1
date_of (suc n) = next_date (date_of n)
