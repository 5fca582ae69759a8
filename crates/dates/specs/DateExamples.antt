-- Examples as statements over the definitions: each date and its number, both ways.
use Rattle.std.specs.Prelude.{ℕ, ◌≡◌, true}
use Rattle.model.specs.Calendar.{span, date, is_date, day_number, date_of}
use Rattle.model.specs.SettlementTerms.{term_of}
use Rattle.dates.specs.DateCalls.{day_call, date_call, term_call}

-- the date exists, has that number, and that number has the date
pub record Numbered (y m d n : ℕ) : Type 0 where
  pub exists : is_date (date y m d) ≡ true
  pub number : day_number (date y m d) ≡ n
  pub back : date_of n ≡ date y m d

-- no such date
pub record Missing (y m d : ℕ) : Type 0 where
  pub refused : day_call y m d ≡ record { refusal = 19; day = 0 }

pub record DateExamples : Type 0 where
  -- "0 is 1 January 2000, 36,524 is 31 December 2099 ..; 29 February 2024 is 8,825"
  pub first : Numbered 2000 1 1 0
  pub last : Numbered 2099 12 31 36524
  pub leap_2024 : Numbered 2024 2 29 8825
  -- around other ends of February, and the first year's end
  pub feb_28_2000 : Numbered 2000 2 28 58
  pub feb_29_2000 : Numbered 2000 2 29 59
  pub mar_1_2000 : Numbered 2000 3 1 60
  pub new_year_2001 : Numbered 2001 1 1 366
  pub feb_28_2023 : Numbered 2023 2 28 8459
  pub mar_1_2023 : Numbered 2023 3 1 8460
  pub feb_28_2024 : Numbered 2024 2 28 8824
  pub feb_28_2096 : Numbered 2096 2 28 35122
  pub feb_29_2096 : Numbered 2096 2 29 35123
  -- dates that are refused
  pub feb_29_2023 : Missing 2023 2 29
  pub feb_30_2024 : Missing 2024 2 30
  pub apr_31_2024 : Missing 2024 4 31
  pub day_0 : Missing 2024 4 0
  pub month_0 : Missing 2024 0 1
  pub month_13 : Missing 2024 13 1
  pub year_1999 : Missing 1999 12 31
  pub year_2100 : Missing 2100 1 1
  -- days that are refused, and the last that is not
  pub past_the_last : date_call 36525 ≡ record { refusal = 19; year = 0; month = 0; day = 0 }
  pub no_term : term_call 36525 ≡ record { refusal = 19; first = 0; last = 0 }
  pub last_day : date_call 36524 ≡ record { refusal = 0; year = 2099; month = 12; day = 31 }
  -- second terms of 14 days, of 13 and of 16
  pub leap_term : term_of 8825 ≡ span 8812 8825
  pub short_term : term_of 8459 ≡ span 8447 8459
  pub last_term : term_of 36524 ≡ span 36509 36524
