-- The three conversions as calls. "19: a day above 36,524, a date that does not exist or lies outside 2000 to 2099";
-- "a refused conversion answers zeros".
use Rattle.std.specs.Prelude.{ℕ, cond, leb, Result, Ok, Err}
use Rattle.model.specs.declared.refusal.Refusal.{Refusal}
use Rattle.model.specs.declared.lent.DaySpan.{DaySpan}
use Rattle.model.specs.Refusals.{refusal_number}
use Rattle.model.specs.Lent.{span_given}
use Rattle.dates.specs.declared.Date.{Date as CodeDate}
use Rattle.dates.specs.declared.DayAnswer.{DayAnswer}
use Rattle.dates.specs.declared.DateAnswer.{DateAnswer}
use Rattle.dates.specs.declared.TermAnswer.{TermAnswer}
use Rattle.model.specs.Bounds.{most_day}
use Rattle.model.specs.Calendar.{Span, Date, date, is_date, day_number, date_of}
use Rattle.model.specs.SettlementTerms.{term_of}

abbrev pub day_given : ℕ → DayAnswer
day_given n = record { refusal = 0; day = n }

abbrev pub date_given : Date → DateAnswer
date_given t = record { refusal = 0; year = t.year; month = t.month; day = t.day }

abbrev pub term_given : Span → TermAnswer
term_given s = record { refusal = 0; first = s.first; last = s.last }

unfoldable pub day_call : ℕ → ℕ → ℕ → DayAnswer
day_call y m d = cond (is_date (date y m d)) (day_given (day_number (date y m d))) (record { refusal = 19; day = 0 })

unfoldable pub date_call : ℕ → DateAnswer
date_call n = cond (leb n most_day) (date_given (date_of n)) (record { refusal = 19; year = 0; month = 0; day = 0 })

unfoldable pub term_call : ℕ → TermAnswer
term_call n = cond (leb n most_day) (term_given (term_of n)) (record { refusal = 19; first = 0; last = 0 })

-- what the code's outcomes come to for C
abbrev pub day_answer_of : Result ℕ Refusal → DayAnswer
day_answer_of (Ok n) = day_given n
day_answer_of (Err r) = record { refusal = refusal_number r; day = 0 }

abbrev pub date_answer_of : Result CodeDate Refusal → DateAnswer
date_answer_of (Ok t) = date_given (date t.year t.month t.day)
date_answer_of (Err r) = record { refusal = refusal_number r; year = 0; month = 0; day = 0 }

abbrev pub term_answer_of : Result DaySpan Refusal → TermAnswer
term_answer_of (Ok s) = term_given (span_given s)
term_answer_of (Err r) = record { refusal = refusal_number r; first = 0; last = 0 }
