-- The record is the fields passed and the fields from here, and the numbers are those of the columns passed.
use Rattle.std.proofs.Common.{◌+◌, ◌-◌, length}
use Rattle.csv_rows.proofs.RecordLaws.{Passed}
use Rattle.csv_rows.proofs.any_record.Given as goal

abbrev pub invariant-loop-step : goal.invariant-loop-step
invariant-loop-step l = Passed l.text l.at l.c l.i l.count l.picks

abbrev pub decreases-loop-step : goal.decreases-loop-step
decreases-loop-step l = length l.text + 1 - l.i
