-- The sheet of the records of a span of days, of which the whole sheet and a term's are two; and what checking a column for it finds.
use Rattle.std.specs.Prelude.{ℕ, ◌≡◌, Bool, true, false, cond, List, length, take, Option, Some, None, eqb}
use Rattle.model.specs.declared.lent.DaySpan.{DaySpan}
use Rattle.model.specs.Lists.{sum_of, keep}
use Rattle.model.specs.Checks.{first_failed}
use Rattle.model.specs.Calendar.{Span, span}
use Rattle.model.specs.Deliveries.{each_slice, on_days}
use Rattle.model.specs.Column.{Column, lengths_of, all_records}
use Rattle.model.specs.Sheet.{sheet_of, by_grower, slots_during}
use Rattle.model.specs.Questions.{sheet_checks_of}
use Rattle.model.specs.SheetCalls.{SheetResult, written, not_written}
use Rattle.model.specs.Lent.{span_given, records_given}
use Rattle.slot_order.specs.Spans.{slots_on}
use Rattle.sheet.specs.declared.Sized.{Sized}

-- the days asked for, and whether they are given: a day past the last names no term
abbrev pub span_of : Option DaySpan → Span
span_of (Some d) = span_given d
span_of None = span 0 0

abbrev pub is_given : Option DaySpan → Bool
is_given (Some d) = true
is_given None = false

-- L is the block limit
module _ (L : ℕ) (c : Column) where
  -- the slots of the records of these days, and their sheet
  abbrev pub span_slots : Span → List ℕ
  span_slots s = slots_during s c.slices.days (sum_of (lengths_of L c))

  abbrev pub span_text : Span → List ℕ
  span_text s = sheet_of (keep (on_days s) (all_records L c))

  -- the refusal
  abbrev pub span_refusal : Option DaySpan → ℕ → ℕ → ℕ → ℕ
  span_refusal t room orderRoom workRoom =
      first_failed (sheet_checks_of L c (is_given t) (length (span_slots (span_of t))) (span_text (span_of t)) room orderRoom workRoom)

  -- the records of the used slots, the days, and how many of the records have one of them
  pub record IsSized (t : Option DaySpan) (x : Sized) : Type 0 where
    pub slots : records_given x.records ≡ each_slice (take (sum_of (lengths_of L c))) c.slices
    pub days : t ≡ Some x.days
    pub count : x.count ≡ length (slots_on (span_given x.days) (records_given x.records))

  -- the call
  unfoldable pub span_call : Option DaySpan → List ℕ → List ℕ → List ℕ → SheetResult
  span_call t out order work =
      let n : ℕ = span_refusal t (length out) (length order) (length work) in
      let is : List ℕ = span_slots (span_of t) in
      cond (eqb n 0) (written (span_text (span_of t)) (length is) (by_grower c.slices.growers is) out order work) (not_written n out order work)
