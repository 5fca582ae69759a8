-- The digits counted, and those of the numbers that are left, are all.
use Rattle.csv_lines.proofs.PlainLaws.{Counted}
use Rattle.csv_lines.proofs.digits_total.Given as goal

abbrev pub invariant-loop-n : goal.invariant-loop-n
invariant-loop-n l = Counted l.s l.total l.n-index
