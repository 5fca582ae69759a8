-- The five calls, and 02's range over days: one type for recorder, column and ledger.
use Rattle.std.specs.Prelude.{ℕ, Bool, true, ◌&&◌, leb}
use Rattle.model.specs.declared.Delivery.{Delivery}
use Rattle.model.specs.Bounds.{most_day}
use Rattle.model.specs.Calendar.{Span}
use Rattle.model.specs.Deliveries.{in_range, day_ok}

-- find g; range lo to hi, and from a first to a last day; insert and delete of a delivery; move of a delivery to a new grower
pub data Call : Type 0 where
  find : ℕ → Call
  range : ℕ → ℕ → Call
  range_days : ℕ → ℕ → Span → Call
  insert : Delivery → Call
  delete : Delivery → Call
  move : Delivery → ℕ → Call

-- check 7: "is lo at most hi?"
unfoldable pub ordered : Call → Bool
ordered (find g) = true
ordered (range lo hi) = leb lo hi
ordered (range_days lo hi s) = leb lo hi
ordered (insert d) = true
ordered (delete d) = true
ordered (move d g) = true

-- check 8: "are weight and yield in range .. in the delivery offered?"
unfoldable pub offered_ok : Call → Bool
offered_ok (find g) = true
offered_ok (range lo hi) = true
offered_ok (range_days lo hi s) = true
offered_ok (insert d) = in_range d
offered_ok (delete d) = in_range d
offered_ok (move d g) = in_range d

-- check 19, of named days: "a day above 36,524"
abbrev pub span_ok : Span → Bool
span_ok s = leb s.first most_day && leb s.last most_day

-- check 19, of the delivery offered and of the days named
unfoldable pub offered_days_ok : Call → Bool
offered_days_ok (find g) = true
offered_days_ok (range lo hi) = true
offered_days_ok (range_days lo hi s) = span_ok s
offered_days_ok (insert d) = day_ok d
offered_days_ok (delete d) = day_ok d
offered_days_ok (move d g) = day_ok d
