-- None of the records passed so far is the delivery (`Searched`).
use Rattle.model.specs.Lent.{records_given}
use Rattle.slices.proofs.Scans.{Searched}
use Rattle.slices.proofs.first_tested.Given as goal

abbrev pub invariant-loop-i : goal.invariant-loop-i
invariant-loop-i l = Searched l.d (records_given l.r) l.i
