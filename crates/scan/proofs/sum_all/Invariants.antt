-- The records of the strides so far all pass checks 8 and 19, and the sum is theirs (`Fitting`).
use Rattle.std.proofs.Common.{◌*◌}
use Rattle.model.specs.Lent.{records_given}
use Rattle.model.specs.Deliveries.{totals_during}
use Rattle.scan.proofs.Fitting.{Fitting}
use Rattle.scan.proofs.sum_all.Given as goal

abbrev pub invariant-loop-n : goal.invariant-loop-n
invariant-loop-n g l = Fitting (totals_during l.lo l.hi (g.D.Days.span_asked l.days)) (records_given l.r) l.sum (l.n * 64)
