-- The examples that specs/DateExamples.antt states. Numbers of dates and refusals by computing; dates of numbers, which the definition counts
-- out day by day, by the law that one date has the number. Assumes nothing.
use Prim.Native.Nat.{ℕ}
use mathlib.Core.Path.{◌≡◌, refl, ap, ◌∙◌}
use mathlib.Core.Bool.{true, false}
use Rattle.model.specs.Lists.{sum_of, up_from}
use Rattle.model.proofs.Tests.{of_true}
use Rattle.model.specs.Calendar.{date, is_leap, month_lengths, month_days, days_before_month, year_days, days_before_year, is_date, day_number}
use Rattle.model.specs.SettlementTerms.{term, term_at, term_of}
use Rattle.dates.specs.DateCalls.{date_given, day_call, date_call, term_call}
use Rattle.dates.specs.DateExamples.{Numbered, Missing, DateExamples}
use Rattle.dates.proofs.Dates.{real, the_date}

numbered : (y m d n : ℕ) → is_date (date y m d) ≡ true → day_number (date y m d) ≡ n → Numbered y m d n
numbered y m d n e f = record { exists = e; number = f; back = the_date n y m d (real y m d (of_true (is_date (date y m d)) e)) f }

termed : (y m d n : ℕ) → Numbered y m d n → term_of n ≡ term_at (date y m d)
unfolding term_of
termed y m d n e = ap term_at e.back

refused_dates : (y m d : ℕ) → is_date (date y m d) ≡ false → Missing y m d
unfolding day_call
refused_dates y m d e = record { refused = rw e }

pub date_examples : DateExamples
unfolding is_date day_number days_before_year days_before_month year_days month_days month_lengths is_leap sum_of up_from term_at term date_call term_call
date_examples = record {
  first = numbered 2000 1 1 0 refl refl;
  last = numbered 2099 12 31 36524 refl refl;
  leap_2024 = numbered 2024 2 29 8825 refl refl;
  feb_28_2000 = numbered 2000 2 28 58 refl refl;
  feb_29_2000 = numbered 2000 2 29 59 refl refl;
  mar_1_2000 = numbered 2000 3 1 60 refl refl;
  new_year_2001 = numbered 2001 1 1 366 refl refl;
  feb_28_2023 = numbered 2023 2 28 8459 refl refl;
  mar_1_2023 = numbered 2023 3 1 8460 refl refl;
  feb_28_2024 = numbered 2024 2 28 8824 refl refl;
  feb_28_2096 = numbered 2096 2 28 35122 refl refl;
  feb_29_2096 = numbered 2096 2 29 35123 refl refl;
  feb_29_2023 = refused_dates 2023 2 29 refl;
  feb_30_2024 = refused_dates 2024 2 30 refl;
  apr_31_2024 = refused_dates 2024 4 31 refl;
  day_0 = refused_dates 2024 4 0 refl;
  month_0 = refused_dates 2024 0 1 refl;
  month_13 = refused_dates 2024 13 1 refl;
  year_1999 = refused_dates 1999 12 31 refl;
  year_2100 = refused_dates 2100 1 1 refl;
  past_the_last = refl;
  no_term = refl;
  last_day = ap date_given (numbered 2099 12 31 36524 refl refl).back;
  leap_term = termed 2024 2 29 8825 (numbered 2024 2 29 8825 refl refl) ∙ refl;
  short_term = termed 2023 2 28 8459 (numbered 2023 2 28 8459 refl refl) ∙ refl;
  last_term = termed 2099 12 31 36524 (numbered 2099 12 31 36524 refl refl) ∙ refl;
}
