-- The edges of days and settlement terms, each proved by computing. Assumes nothing.
use Prim.Native.Nat.{ℕ}
use mathlib.Core.Path.{refl}
use Rattle.model.specs.DayExamples.{RangesOverDays, DaysAsked, DaysMoved, DaysOfSets, DaysOfGrowers, DaysInTheLedger}
use Rattle.model.specs.DayExamples.{DaysInTexts, CalendarComputed, TermsComputed, SheetsOfTerms, TermSheetQuestions}
use Rattle.model.specs.Calendar.{is_date}
use Rattle.model.proofs.Computing.{computed}

pub ranges_over_days : RangesOverDays
unfolding computed
ranges_over_days = record {
  both_counted = refl;
  one_day = refl;
  growers_too = refl;
  last_earlier = refl;
  last_much_earlier = refl;
  no_record = refl;
  all_days = refl;
  all_records = refl;
  first_above = refl;
  last_above = refl;
  seven_first = refl;
  eight_first = refl;
}

pub days_asked : DaysAsked
unfolding computed
days_asked = record {
  scanned = refl;
  not_scanned = refl;
  ranged = refl;
  ranged_days = refl;
  eight-of_all_first = refl;
  offered = refl;
  offered_last_day = refl;
  offered_heavy = refl;
  offered_and_full = refl;
  deleted_scanned = refl;
  deleted_late = refl;
  moved_late = refl;
  even = refl;
  too_short = refl;
  too_long = refl;
  three_first = refl;
}

pub days_moved : DaysMoved
unfolding computed
days_moved = record {
  inserted = refl;
  deleted = refl;
  deleted_last = refl;
  moved = refl;
  moved_back = refl;
  other_day = refl;
  other_day_moved = refl;
  by_day_alone = refl;
  same_day = refl;
}

pub days_of_sets : DaysOfSets
unfolding computed
days_of_sets = record {
  as_any_range = refl;
  last_earlier = refl;
  held = refl;
  other_day = refl;
  late = refl;
  late_free = refl;
  named_above = refl;
  offered = refl;
  seven_first = refl;
  eight_first = refl;
  nine-behind = refl;
  billed = refl;
  planned = refl;
  laid = refl;
  laid-free = refl;
  billed_free = refl;
  planned-free = refl;
  listed_free = refl;
  listed = refl;
}

pub days_of_growers : DaysOfGrowers
unfolding computed
days_of_growers = record {
  scanned = refl;
  not_scanned = refl;
  scanned_down = refl;
  eight_first = refl;
}

pub days_in_the_ledger : DaysInTheLedger
unfolding computed
days_in_the_ledger = record {
  ranged = refl;
  last_earlier = refl;
  named_above = refl;
  seven_first = refl;
  deleted = refl;
  other_day = refl;
  moved = refl;
  late_and_full = refl;
  heavy_and_late = refl;
  late_and_missing = refl;
}

pub days_in_texts : DaysInTexts
unfolding computed
days_in_texts = record {
  written-dated = refl;
  written_heavy = refl;
  written_unsound = refl;
  written-free = refl;
  read_days = refl;
  read_three_slices = refl;
  imported = refl;
  imported_two = refl;
  not-imported = refl;
  imported_three_slices = refl;
  exported = refl;
  exported_late = refl;
  exported_past = refl;
  exported_heavy = refl;
  a_set = refl;
  a_call = refl;
}

pub calendar_computed : CalendarComputed
unfolding computed is_date
calendar_computed = record {
  first_day = refl;
  last_day = refl;
  leap_day = refl;
  back_leap_day = refl;
  back_march = refl;
  back_next_year = refl;
  by_400 = refl;
  by_100 = refl;
  no_leap_day = refl;
  a_leap_day = refl;
  day_0 = refl;
  month_13 = refl;
  too_early = refl;
  too_late = refl;
}

pub terms_computed : TermsComputed
unfolding computed
terms_computed = record {
  first = refl;
  to_the_15th = refl;
  from_the_16th = refl;
  to_the_last = refl;
  february = refl;
  to_the_29th = refl;
}

pub sheets_of_terms : SheetsOfTerms
unfolding computed
sheets_of_terms = record {
  first_term = refl;
  its_last_day = refl;
  no_record = refl;
  order_left = refl;
  work_left = refl;
  byte_short = refl;
  order_short = refl;
  work_short = refl;
  above = refl;
  late_elsewhere = refl;
  heavy_first = refl;
  unsound_first = refl;
  whole = refl;
  whole_late = refl;
}

pub term_sheet_questions : (L : ℕ) → TermSheetQuestions L
unfolding computed
term_sheet_questions L = record { asked = λ c day room orderRoom workRoom. refl }
