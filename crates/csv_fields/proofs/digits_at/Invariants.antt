-- The bytes passed are digits and spell v.
use Rattle.csv_fields.specs.Reading.{DigitsTo}
use Rattle.csv_fields.proofs.digits_at.Given as goal

abbrev pub invariant-loop-i : goal.invariant-loop-i
invariant-loop-i l = DigitsTo l.text l.at l.v l.i
