-- `dates::month_at`: each way finds the month as computed at every day of the year. Assumes nothing.
use Rattle.std.proofs.Common.{arith}
use Rattle.dates.proofs.Months.{found_early, found_late, year_most}
use Rattle.dates.proofs.month_at.Goals as goal
use Rattle.dates.proofs.month_at.Goals.{then-n-lacking-lt61, else-n-lacking-lt61}

pub overflow_add-n : goal.overflow_add-n
overflow_add-n c = omega (arith, year_most c.args.leap)

pub overflow_add-result : goal.overflow_add-result
overflow_add-result c = grind (arith, year_most c.args.leap)

pub overflow_mul-result : goal.overflow_mul-result
overflow_mul-result c = grind (arith, year_most c.args.leap)

pub overflow_add-result-2 : goal.overflow_add-result-2
overflow_add-result-2 c = grind (arith, year_most c.args.leap)

pub returns : goal.returns
returns c =
    elim c.if-n-lacking-lt61.branch [
      | then-n-lacking-lt61 w ↦ rw w.shift-is (found_early c.args.leap c.args.n (rw c.lacking.ensures.value at w.if-n-lacking-lt61.true) c.requires)
      | else-n-lacking-lt61 w ↦ rw (w.shift-is, w.lacking-shift.ensures.value) (found_late c.args.leap c.args.n (rw c.lacking.ensures.value at w.if-n-lacking-lt61.false) c.requires)
    ]
