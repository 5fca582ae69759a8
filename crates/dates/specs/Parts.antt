-- What the code's inner functions answer: the month that holds a day of a year, and a day number taken apart.
use Rattle.std.specs.Prelude.{ℕ, ◌+◌, ◌≤◌, ◌<◌, ◌≡◌, Bool}
use Rattle.dates.specs.declared.Parts.{Parts}
use Rattle.model.specs.Calendar.{first_year, last_year, date, is_leap, month_days, days_before_month, day_number}

-- month m holds day n of a year, counted from 0
pub record MonthAt (leap : Bool) (n m : ℕ) : Type 0 where
  pub least : 1 ≤ m
  pub most : m ≤ 12
  pub begun : days_before_month leap m ≤ n
  pub not_over : n < days_before_month leap (m + 1)

-- p is a date that exists, and has the number n
pub record Parted (n : ℕ) (p : Parts) : Type 0 where
  pub leap_year : p.leap ≡ is_leap p.date.year
  pub year_least : first_year ≤ p.date.year
  pub year_most : p.date.year ≤ last_year
  pub month_least : 1 ≤ p.date.month
  pub month_most : p.date.month ≤ 12
  pub day_least : 1 ≤ p.date.day
  pub day_most : p.date.day ≤ month_days (is_leap p.date.year) p.date.month
  pub early : p.date.day ≤ n + 1
  pub number : day_number (date p.date.year p.date.month p.date.day) ≡ n
