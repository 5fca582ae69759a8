-- Settlement terms (02: Slip 7): "Growers are settled twice a month."
use Rattle.std.specs.Prelude.{ℕ, cond, leb}
use Rattle.model.specs.Calendar.{Span, span, Date, date, is_leap, month_days, day_number, date_of}

pub data Half : Type 0 where
  early : Half
  late : Half

-- "A term is days 1 to 15 of a month, or 16 to its last day."
unfoldable pub term : ℕ → ℕ → Half → Span
term y m early = span (day_number (date y m 1)) (day_number (date y m 15))
term y m late = span (day_number (date y m 16)) (day_number (date y m (month_days (is_leap y) m)))

-- the term that holds a date
unfoldable pub term_at : Date → Span
term_at t = term t.year t.month (cond (leb t.day 15) early late)

-- "the term that holds a given day"
unfoldable pub term_of : ℕ → Span
term_of n = term_at (date_of n)
