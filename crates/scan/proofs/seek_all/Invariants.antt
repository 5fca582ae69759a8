-- The records of the strides so far all pass checks 8 and 19, and the first match is theirs (`Fitting`).
use Rattle.std.proofs.Common.{◌*◌}
use Rattle.model.specs.Lent.{records_given}
use Rattle.model.specs.Deliveries.{first_match}
use Rattle.scan.proofs.Fitting.{Fitting}
use Rattle.scan.proofs.seek_all.Given as goal

abbrev pub invariant-loop-n : goal.invariant-loop-n
invariant-loop-n l = Fitting (first_match l.d) (records_given l.r) l.found (l.n * 128)
