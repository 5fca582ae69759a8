-- `sheet_lines::put_lines`: the order from i on is the slots of the growers whose lines are left, which rise; their lines, written from here on, make the
-- whole, and their sums are what is missing from the totals. Assumes nothing.
use Rattle.std.proofs.Common.{◌-◌, length}
use Rattle.model.specs.Lent.{records_given}
use Rattle.sheet_lines.proofs.GroupLines.{LinesLeft}
use Rattle.sheet_lines.proofs.put_lines.Given as goal

abbrev pub invariant-loop-i : goal.invariant-loop-i
invariant-loop-i l = LinesLeft l.initial.text l.order (records_given l.r) l.text l.totals l.at l.i

abbrev pub decreases-loop-i : goal.decreases-loop-i
decreases-loop-i l = length l.order - l.i
