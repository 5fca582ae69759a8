-- The rows are those passed and those from here, and those passed are stored if there is room for them.
use Rattle.std.proofs.Common.{◌-◌, length}
use Rattle.csv_rows.proofs.StoreLaws.{Reading}
use Rattle.csv_rows.proofs.read_rows.Given as goal

abbrev pub invariant-loop-i : goal.invariant-loop-i
invariant-loop-i l = Reading l.text l.fn.at l.c l.room l.fn.growers l.fn.weights l.fn.yields l.growers l.weights l.yields l.i l.m

abbrev pub decreases-loop-i : goal.decreases-loop-i
decreases-loop-i l = length l.text - l.i
