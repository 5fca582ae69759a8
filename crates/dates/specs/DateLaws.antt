-- The laws of dates, day numbers and terms, as statements.
use Rattle.std.specs.Prelude.{ℕ, ◌+◌, ◌≤◌, ◌<◌, ◌≡◌, T}
use Rattle.model.specs.Bounds.{most_day}
use Rattle.model.specs.Calendar.{is_in, Date, is_date, day_number, date_of}
use Rattle.model.specs.SettlementTerms.{Half, term, term_of}
use Rattle.dates.specs.Months.{is_earlier, is_month, days_in}

-- "Conversion between day number and date is exact each way."
pub record ExactEachWay : Type 0 where
  pub a_date : (n : ℕ) → n ≤ most_day → T (is_date (date_of n))
  pub same_day : (n : ℕ) → n ≤ most_day → day_number (date_of n) ≡ n
  pub a_day : (t : Date) → T (is_date t) → day_number t ≤ most_day
  pub same-date : (t : Date) → T (is_date t) → date_of (day_number t) ≡ t

-- an earlier date has a smaller number
abbrev pub NumbersRise : Type 0
NumbersRise = (s t : Date) → T (is_date s) → T (is_date t) → T (is_earlier s t) → day_number s < day_number t

-- every day lies in one term and in no other
pub record OneTerm : Type 0 where
  pub a_month : (n : ℕ) → n ≤ most_day → T (is_month (date_of n).year (date_of n).month)
  pub lies_in : (n : ℕ) → n ≤ most_day → T (is_in (term_of n) n)
  pub in_no_other : (y m : ℕ) (h : Half) (n : ℕ) → T (is_month y m) → T (is_in (term y m h) n) → term_of n ≡ term y m h

-- a term has 13 to 16 days
pub record TermSize : Type 0 where
  pub least : (y m : ℕ) (h : Half) → T (is_month y m) → 13 ≤ days_in (term y m h)
  pub most : (y m : ℕ) (h : Half) → T (is_month y m) → days_in (term y m h) ≤ 16

-- the terms follow one another from day 0 to day 36,524 without a gap
pub record NoGap : Type 0 where
  pub starts : (term_of 0).first ≡ 0
  pub goes_on : (n : ℕ) → n ≤ most_day → (term_of n).last < most_day → (term_of ((term_of n).last + 1)).first ≡ (term_of n).last + 1
  pub ends : (n : ℕ) → n ≤ most_day → (term_of n).last ≤ most_day
