-- The edges of days and settlement terms, computed (02: Slip 7).
use Rattle.std.specs.Prelude.{ℕ, ◌≡◌, true, false, List, [], ◌∷◌, ◌++◌, map, replicate, pos}
use Rattle.std.proofs.Math.Option.{some}
use Rattle.model.specs.declared.Delivery.{Delivery}
use Rattle.model.specs.declared.Totals.{Totals}
use Rattle.model.specs.Bounds.{block_limit}
use Rattle.model.specs.Checks.{first_failed}
use Rattle.model.specs.Calendar.{span, date, is_leap, is_date, day_number, date_of}
use Rattle.model.specs.SettlementTerms.{term_of}
use Rattle.model.specs.Prices.{factory, limits}
use Rattle.model.specs.Deliveries.{Slices, slices_of, delivery, no_totals, same}
use Rattle.model.specs.Blocks.{Set, slices_ok}
use Rattle.model.specs.Calls.{Call, find, range, range_days, insert, delete, move}
use Rattle.model.specs.Histograms.{zeros, raises, at, pq, de}
use Rattle.model.specs.Column.{Column}
use Rattle.model.specs.Accesses.{counts, no_counts}
use Rattle.model.specs.Growers.{up, down}
use Rattle.model.specs.Recorder.{record_call}
use Rattle.model.specs.Planner.{cost_call, plan_call}
use Rattle.model.specs.ListingCalls.{list_call}
use Rattle.model.specs.ColumnCalls.{Called, apply_call, column_call}
use Rattle.model.specs.Ledger.{Entered, ledger_call}
use Rattle.model.specs.GrowerCalls.{grower_answer, grower_call}
use Rattle.model.specs.Questions.{term_sheet_checks}
use Rattle.model.specs.SnapshotCalls.{read_call, write_call}
use Rattle.model.specs.CsvCalls.{import_call, export_call}
use Rattle.model.specs.SheetCalls.{sheet_call, term_sheet_call}
use Rattle.model.specs.Program.{call_of, set_of}
use Rattle.model.specs.Text.{bytes_of}
use Rattle.model.specs.Examples.{week, halves, column_with, gives, refused_on, totals, eight, nine, number}

-- 01's main case with these days
abbrev pub week_on : List ℕ → Slices
week_on ns = slices_of week.slices.growers week.slices.weights week.slices.yields ns

-- on the first and the last day of terms, and on the last day of all
abbrev pub dated : Column
dated = column_with (4 ∷ 4 ∷ []) (week_on (0 ∷ 14 ∷ 15 ∷ 30 ∷ 14 ∷ 15 ∷ 46 ∷ 36524 ∷ 0 ∷ []))

-- a day out of range in the second record; the same, and a weight out of range in the fourth
abbrev pub late_second : Column
late_second = column_with (4 ∷ 4 ∷ []) (week_on (0 ∷ 36525 ∷ 0 ∷ 0 ∷ 0 ∷ 0 ∷ 0 ∷ 0 ∷ 0 ∷ []))

abbrev pub late_and_heavy : Column
late_and_heavy = column_with (4 ∷ 4 ∷ [])
    (slices_of week.slices.growers (100 ∷ 100 ∷ 100 ∷ 100001 ∷ 100 ∷ 100 ∷ 100 ∷ 100 ∷ 0 ∷ []) week.slices.yields (0 ∷ 36525 ∷ 0 ∷ 0 ∷ 0 ∷ 0 ∷ 0 ∷ 0 ∷ 0 ∷ []))

abbrev pub on : ℕ → ℕ → Delivery
on g n = delivery g 100 2000 n

abbrev pub calling : Column → Call → Called
calling c k = column_call block_limit c k

abbrev pub refusal : Column → Call → ℕ
refusal c k = (column_call block_limit c k).answer.refusal

-- "A range call may also name a first and a last day, both counted; if the last is earlier, it matches nothing. Either way it scans .. as any range"
pub record RangesOverDays : Type 0 where
  pub both_counted : calling dated (range_days 10 80 (span 14 15)) ≡ gives (totals 4 400 800000) (counts 1 3 0) dated
  pub one_day : calling dated (range_days 10 80 (span 30 30)) ≡ gives (totals 1 100 200000) (counts 1 3 0) dated
  pub growers_too : calling dated (range_days 10 40 (span 14 15)) ≡ gives (totals 2 200 400000) (counts 1 1 0) dated
  pub last_earlier : calling dated (range_days 10 80 (span 15 14)) ≡ gives no_totals (counts 1 3 0) dated
  pub last_much_earlier : calling dated (range_days 10 80 (span 36524 0)) ≡ gives no_totals (counts 1 3 0) dated
  pub no_record : calling dated (range_days 10 80 (span 31 45)) ≡ gives no_totals (counts 1 3 0) dated
  -- a range is one over all days
  pub all_days : calling dated (range_days 10 80 (span 0 36524)) ≡ calling dated (range 10 80)
  pub all_records : calling dated (range 10 80) ≡ gives (totals 8 800 1600000) (counts 1 3 0) dated
  -- 19: a named day above 36,524; after 7 and after 8
  pub first_above : calling dated (range_days 10 80 (span 36525 36524)) ≡ refused_on dated 19 no_counts
  pub last_above : calling dated (range_days 10 80 (span 0 36525)) ≡ refused_on dated 19 no_counts
  pub seven_first : refusal dated (range_days 5 4 (span 36525 0)) ≡ 7
  pub eight_first : refusal late_and_heavy (range_days 10 80 (span 36525 0)) ≡ 8

-- "(19: a day above 36,524 ..; of records, asked where 8 is; .. placed just after 8)": 8 of everything, then 19 of everything
pub record DaysAsked : Type 0 where
  pub scanned : calling late_second (find 10) ≡ refused_on late_second 19 no_counts
  pub not_scanned : refusal late_second (find 50) ≡ 0
  pub ranged : refusal late_second (range 30 60) ≡ 19
  pub ranged_days : refusal late_second (range_days 30 60 (span 0 0)) ≡ 19
  pub eight-of_all_first : refusal late_and_heavy (find 10) ≡ 8
  pub offered : refusal dated (insert (on 15 36525)) ≡ 19
  pub offered_last_day : refusal dated (insert (on 15 36524)) ≡ 0
  pub offered_heavy : refusal dated (insert (delivery 15 100001 0 36525)) ≡ 8
  pub offered_and_full : refusal (column_with (4 ∷ 5 ∷ []) (week_on (nine 0))) (insert (on 15 36525)) ≡ 19
  pub deleted_scanned : refusal late_second (delete (on 10 0)) ≡ 19
  pub deleted_late : refusal dated (delete (on 10 36525)) ≡ 19
  pub moved_late : refusal dated (move (on 10 36525) 20) ≡ 19
  -- "Question 3 covers four slices"
  pub even : slices_ok (week_on (eight 0)) ≡ true
  pub too_short : slices_ok (week_on (0 ∷ [])) ≡ false
  pub too_long : slices_ok (week_on (0 ∷ nine 0)) ≡ false
  pub three_first : refusal (column_with (4 ∷ 4 ∷ []) (week_on [])) (find 10) ≡ 3

-- "Ripples carry the day, a freed slot's day becomes 0"; an equal delivery has an equal day
pub record DaysMoved : Type 0 where
  pub inserted : (calling dated (insert (on 15 7))).column.slices.days ≡ 0 ∷ 14 ∷ 15 ∷ 30 ∷ 7 ∷ 15 ∷ 46 ∷ 36524 ∷ 14 ∷ []
  pub deleted : (calling dated (delete (on 30 15))).column.slices.days ≡ 0 ∷ 14 ∷ 30 ∷ 36524 ∷ 14 ∷ 15 ∷ 46 ∷ 0 ∷ 0 ∷ []
  pub deleted_last : (calling dated (delete (on 80 36524))).column.slices.days ≡ 0 ∷ 14 ∷ 15 ∷ 30 ∷ 14 ∷ 15 ∷ 46 ∷ 0 ∷ 0 ∷ []
  pub moved : (calling dated (move (on 20 14) 70)).column.slices.days ≡ 0 ∷ 30 ∷ 15 ∷ 14 ∷ 14 ∷ 15 ∷ 46 ∷ 36524 ∷ 0 ∷ []
  pub moved_back : (calling dated (move (on 70 46) 20)).column.slices.days ≡ 0 ∷ 14 ∷ 15 ∷ 30 ∷ 46 ∷ 15 ∷ 14 ∷ 36524 ∷ 0 ∷ []
  pub other_day : calling dated (delete (on 30 14)) ≡ refused_on dated 13 (counts 1 1 0)
  pub other_day_moved : calling dated (move (on 30 0) 20) ≡ refused_on dated 13 (counts 1 1 0)
  pub by_day_alone : same (on 30 15) (on 30 14) ≡ false
  pub same_day : same (on 30 15) (on 30 15) ≡ true

-- the set under a directory, and what calls that are given the whole set answer
abbrev pub set_on : List ℕ → Set
set_on ns = record { block = 2; used = 8; slices = week_on ns }

abbrev pub late_set : Set
late_set = set_on (0 ∷ 36525 ∷ 0 ∷ 0 ∷ 0 ∷ 0 ∷ 0 ∷ 0 ∷ 0 ∷ [])

-- a day out of range in a free slot
abbrev pub late_free_set : Set
late_free_set = set_on (0 ∷ 0 ∷ 0 ∷ 0 ∷ 0 ∷ 0 ∷ 0 ∷ 0 ∷ 36525 ∷ [])

abbrev pub dated_set : Set
dated_set = set_on (0 ∷ 14 ∷ 15 ∷ 30 ∷ 14 ∷ 15 ∷ 46 ∷ 36524 ∷ 0 ∷ [])

abbrev pub recording : Set → List ℕ → Call → ℕ
recording s hs k = (record_call block_limit s hs k).refusal

-- "recorded as any range; the recorder is given the days too, and puts 19", and so do the bill, the planner, laying and the listing
pub record DaysOfSets : Type 0 where
  pub as_any_range : raises dated_set (range_days 15 75 (span 0 14)) ≡ raises dated_set (range 15 75)
  pub last_earlier : record_call block_limit dated_set (zeros block_limit) (range_days 15 75 (span 14 0)) ≡ record_call block_limit dated_set (zeros block_limit) (range 15 75)
  pub held : raises dated_set (delete (on 30 15)) ≡ at de 1 ∷ []
  pub other_day : raises dated_set (delete (on 30 14)) ≡ at pq 1 ∷ []
  pub late : recording late_set (zeros block_limit) (find 10) ≡ 19
  pub late_free : recording late_free_set (zeros block_limit) (find 10) ≡ 0
  pub named_above : recording dated_set (zeros block_limit) (range_days 10 20 (span 0 36525)) ≡ 19
  pub offered : recording dated_set (zeros block_limit) (insert (on 10 36525)) ≡ 19
  -- after 7 and 8, ahead of 9
  pub seven_first : recording late_set (zeros block_limit) (range 5 4) ≡ 7
  pub eight_first : recording late_set (zeros block_limit) (insert (delivery 10 100001 0 0)) ≡ 8
  pub nine-behind : recording late_set [] (find 10) ≡ 19
  pub billed : cost_call block_limit factory late_set halves [] ≡ record { refusal = 19; cost = pos 0 }
  pub planned : plan_call block_limit factory (limits 0 0) late_set [] (7 ∷ []) ≡ record { answer = record { refusal = 19; count = 0; cost = pos 0 }; ends = 7 ∷ [] }
  pub laid : (apply_call block_limit late_set halves).refusal ≡ 19
  pub laid-free : (apply_call block_limit late_free_set halves).refusal ≡ 0
  -- a free slot is not asked
  pub billed_free : cost_call block_limit factory late_free_set halves (zeros block_limit) ≡ record { refusal = 0; cost = pos 0 }
  pub planned-free : (plan_call block_limit factory (limits 100 100) late_free_set (zeros block_limit) []).answer.refusal ≡ 15
  pub listed_free : (list_call block_limit factory (limits 100 100) late_free_set (zeros block_limit) []).answer.refusal ≡ 15
  pub listed : (list_call block_limit factory (limits 0 0) late_set [] []).answer.refusal ≡ 19

-- the next and the previous grower put 19 of the partitions that they scan
pub record DaysOfGrowers : Type 0 where
  pub scanned : grower_call block_limit late_second up 30 ≡ grower_answer 19 0 0 no_counts
  pub not_scanned : grower_call block_limit late_second up 50 ≡ grower_answer 0 50 1 (counts 1 1 0)
  pub scanned_down : grower_call block_limit late_second down 45 ≡ grower_answer 19 0 0 no_counts
  pub eight_first : grower_call block_limit late_and_heavy up 30 ≡ grower_answer 8 0 0 no_counts

-- "the ledger's deliveries have it too"
abbrev pub bag : List Delivery
bag = on 10 0 ∷ on 20 14 ∷ on 20 15 ∷ []

abbrev pub entered : Call → Entered
entered k = ledger_call 3 bag k

abbrev pub entry : ℕ → Totals → List Delivery → Entered
entry n t b = record { refusal = n; totals = t; bag = b }

pub record DaysInTheLedger : Type 0 where
  pub ranged : entered (range_days 0 99 (span 1 14)) ≡ entry 0 (totals 1 100 200000) bag
  pub last_earlier : entered (range_days 0 99 (span 14 1)) ≡ entry 0 no_totals bag
  pub named_above : entered (range_days 0 99 (span 36525 0)) ≡ entry 19 no_totals bag
  pub seven_first : entered (range_days 1 0 (span 36525 0)) ≡ entry 7 no_totals bag
  pub deleted : entered (delete (on 20 15)) ≡ entry 0 no_totals (on 10 0 ∷ on 20 14 ∷ [])
  pub other_day : entered (delete (on 10 1)) ≡ entry 13 no_totals bag
  pub moved : entered (move (on 20 15) 7) ≡ entry 0 no_totals (on 10 0 ∷ on 20 14 ∷ on 7 15 ∷ [])
  pub late_and_full : entered (insert (on 10 36525)) ≡ entry 19 no_totals bag
  pub heavy_and_late : entered (insert (delivery 10 100001 0 36525)) ≡ entry 8 no_totals bag
  pub late_and_missing : entered (delete (on 11 36525)) ≡ entry 19 no_totals bag

-- "Old books, imports and `layplan` give day 0, and an export restores all but the day. Until Slip 9, a book can be written only if every day is 0."
pub record DaysInTexts : Type 0 where
  pub written-dated : write_call block_limit dated [] ≡ record { answer = record { refusal = 19; bytes = 0 }; text = [] }
  pub written_heavy : (write_call block_limit late_and_heavy []).answer.refusal ≡ 8
  pub written_unsound : (write_call block_limit (column_with (3 ∷ 5 ∷ []) (week_on (nine 1))) []).answer.refusal ≡ 6
  pub written-free : (write_call block_limit (column_with (4 ∷ 4 ∷ []) (week_on (0 ∷ 0 ∷ 0 ∷ 0 ∷ 0 ∷ 0 ∷ 0 ∷ 0 ∷ 7 ∷ []))) []).answer.refusal ≡ 15
  -- slots past what is written stay
  pub read_days : (read_call block_limit (bytes_of "          1          1          1" ++ 10 ∷ bytes_of "          1          9" ++ 10 ∷ bytes_of "          5          6          7" ++ 10 ∷ [])
      (slices_of (1 ∷ 1 ∷ []) (2 ∷ 2 ∷ []) (3 ∷ 3 ∷ []) (4 ∷ 4 ∷ []))).column.slices ≡ slices_of (5 ∷ 1 ∷ []) (6 ∷ 2 ∷ []) (7 ∷ 3 ∷ []) (0 ∷ 4 ∷ [])
  pub read_three_slices : (read_call block_limit [] (slices_of (1 ∷ []) (2 ∷ []) (3 ∷ []) [])).refusal ≡ 3
  pub imported : (import_call (bytes_of "grower,weight,yield,day\n5,6,7,8\n") (slices_of (1 ∷ 1 ∷ []) (2 ∷ 2 ∷ []) (3 ∷ 3 ∷ []) (4 ∷ 4 ∷ []))).slices
      ≡ slices_of (5 ∷ 1 ∷ []) (6 ∷ 2 ∷ []) (7 ∷ 3 ∷ []) (0 ∷ 4 ∷ [])
  pub imported_two : (import_call (bytes_of "yield,weight,grower\n7,6,5\n8,7,6") (slices_of (1 ∷ 1 ∷ []) (2 ∷ 2 ∷ []) (3 ∷ 3 ∷ []) (4 ∷ 36525 ∷ []))).slices.days ≡ 0 ∷ 0 ∷ []
  pub not-imported : (import_call [] (slices_of (1 ∷ []) (2 ∷ []) (3 ∷ []) (4 ∷ []))).slices ≡ slices_of (1 ∷ []) (2 ∷ []) (3 ∷ []) (4 ∷ [])
  pub imported_three_slices : (import_call [] (slices_of (1 ∷ []) (2 ∷ []) (3 ∷ []) [])).answer.refusal ≡ 3
  pub exported : (export_call 1 (slices_of (1 ∷ []) (2 ∷ []) (3 ∷ []) (36524 ∷ [])) (replicate 28 0)).text ≡ bytes_of "grower,weight,yield\r\n1,2,3\r\n"
  pub exported_late : (export_call 1 (slices_of (1 ∷ []) (2 ∷ []) (3 ∷ []) (36525 ∷ [])) []).answer.refusal ≡ 19
  pub exported_past : (export_call 1 (slices_of (1 ∷ 1 ∷ []) (2 ∷ 2 ∷ []) (3 ∷ 3 ∷ []) (0 ∷ 36525 ∷ [])) []).answer.refusal ≡ 15
  pub exported_heavy : (export_call 2 (slices_of (1 ∷ 1 ∷ []) (2 ∷ 100001 ∷ []) (3 ∷ 3 ∷ []) (36525 ∷ 0 ∷ [])) []).answer.refusal ≡ 8
  pub a_set : (set_of 2 2 ((10 ∷ 100 ∷ 2000 ∷ []) ∷ (20 ∷ 100 ∷ 2000 ∷ []) ∷ [])).slices.days ≡ 0 ∷ 0 ∷ 0 ∷ []
  pub a_call : call_of (3 ∷ 15 ∷ 100 ∷ 2000 ∷ 0 ∷ []) ≡ some (insert (on 15 0))

-- "0 is 1 January 2000, 36,524 is 31 December 2099, by the Gregorian calendar; 29 February 2024 is 8,825"
pub record CalendarComputed : Type 0 where
  pub first_day : day_number (date 2000 1 1) ≡ 0
  pub last_day : day_number (date 2099 12 31) ≡ 36524
  pub leap_day : day_number (date 2024 2 29) ≡ 8825
  pub back_leap_day : date_of 59 ≡ date 2000 2 29
  pub back_march : date_of 60 ≡ date 2000 3 1
  pub back_next_year : date_of 366 ≡ date 2001 1 1
  pub by_400 : is_leap 2000 ≡ true
  pub by_100 : is_leap 2100 ≡ false
  pub no_leap_day : is_date (date 2023 2 29) ≡ false
  pub a_leap_day : is_date (date 2024 2 29) ≡ true
  pub day_0 : is_date (date 2024 4 0) ≡ false
  pub month_13 : is_date (date 2024 13 1) ≡ false
  pub too_early : is_date (date 1999 12 31) ≡ false
  pub too_late : is_date (date 2100 1 1) ≡ false

-- "A term is days 1 to 15 of a month, or 16 to its last day": January and February 2000
pub record TermsComputed : Type 0 where
  pub first : term_of 0 ≡ span 0 14
  pub to_the_15th : term_of 14 ≡ span 0 14
  pub from_the_16th : term_of 15 ≡ span 15 30
  pub to_the_last : term_of 30 ≡ span 15 30
  pub february : term_of 31 ≡ span 31 45
  pub to_the_29th : term_of 59 ≡ span 46 59

-- "The sheet can be made for the term that holds a given day, from that term's records alone."
pub record SheetsOfTerms : Type 0 where
  -- three records, of growers 10, 20 and 50
  pub first_term : (term_sheet_call block_limit dated 3 (replicate 304 0) (replicate 8 9) (replicate 8 9)).text
      ≡ bytes_of "                  10                   1                 100              200000" ++ 10 ∷
      bytes_of "                  20                   1                 100              200000" ++ 10 ∷
      bytes_of "                  50                   1                 100              200000" ++ 10 ∷ bytes_of "                   3                 300              600000" ++ 10 ∷ []
  pub its_last_day : term_sheet_call block_limit dated 14 (replicate 304 0) (replicate 8 9) (replicate 8 9) ≡ term_sheet_call block_limit dated 3 (replicate 304 0) (replicate 8 9) (replicate 8 9)
  pub no_record : (term_sheet_call block_limit dated 31 (replicate 61 0) (replicate 8 9) (replicate 8 9)).text ≡ bytes_of "                   0                   0                   0" ++ 10 ∷ []
  -- order has the term's slots, work is left 0; the rest of both stays
  pub order_left : (term_sheet_call block_limit dated 3 (replicate 304 0) (replicate 4 9) (replicate 3 9)).order ≡ 0 ∷ 1 ∷ 4 ∷ 9 ∷ []
  pub work_left : (term_sheet_call block_limit dated 3 (replicate 304 0) (replicate 3 9) (replicate 4 9)).work ≡ 0 ∷ 0 ∷ 0 ∷ 9 ∷ []
  pub byte_short : first_failed (term_sheet_checks block_limit dated 31 60 0 0) ≡ 15
  pub order_short : first_failed (term_sheet_checks block_limit dated 3 304 2 3) ≡ 15
  pub work_short : first_failed (term_sheet_checks block_limit dated 3 304 3 2) ≡ 15
  -- 19 of the given day, and of every record, in the term or not; after 6 and 8, ahead of 15
  pub above : term_sheet_call block_limit dated 36525 [] (9 ∷ []) [] ≡ record { answer = record { refusal = 19; bytes = 0 }; text = []; order = 9 ∷ []; work = [] }
  pub late_elsewhere : first_failed (term_sheet_checks block_limit late_second 0 0 0 0) ≡ 19
  pub heavy_first : first_failed (term_sheet_checks block_limit late_and_heavy 36525 0 0 0) ≡ 8
  pub unsound_first : first_failed (term_sheet_checks block_limit (column_with (3 ∷ 5 ∷ []) (week_on (nine 36525))) 36525 0 0 0) ≡ 6
  -- the whole sheet takes every day that is one
  pub whole : (sheet_call block_limit dated (replicate 709 0) (replicate 8 9) (replicate 8 9)).answer ≡ record { refusal = 0; bytes = 709 }
  pub whole_late : (sheet_call block_limit late_second [] [] []).answer.refusal ≡ 19

-- 02's checks of a term's sheet, in order
pub record TermSheetQuestions (L : ℕ) : Type 0 where
  pub asked : (c : Column) (day room orderRoom workRoom : ℕ) → map number (term_sheet_checks L c day room orderRoom workRoom) ≡ 2 ∷ 3 ∷ 6 ∷ 6 ∷ 8 ∷ 19 ∷ 15 ∷ []
