-- None of the strides passed so far has the delivery (`Strides`).
use Rattle.std.proofs.Common.{◌*◌}
use Rattle.model.specs.Deliveries.{first_match}
use Rattle.model.specs.Lent.{records_given}
use Rattle.slices.proofs.Strides.{Strides}
use Rattle.slices.proofs.first_match.Given as goal

abbrev pub invariant-loop-n : goal.invariant-loop-n
invariant-loop-n l = Strides (first_match l.d) (records_given l.r) (l.n * 64) (l.n * 64)
