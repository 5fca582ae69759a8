-- The field is the bytes passed, a doubled quote one of them, and the field from here.
use Rattle.std.proofs.Common.{◌-◌, length}
use Rattle.csv_fields.proofs.CursorLaws.{Quoting}
use Rattle.csv_fields.proofs.quoted_end.Given as goal

abbrev pub invariant-loop-i : goal.invariant-loop-i
invariant-loop-i l = Quoting l.text l.at l.i l.clean

abbrev pub decreases-loop-i : goal.decreases-loop-i
decreases-loop-i l = length l.text - l.i
