-- The lines that are left decide.
use Rattle.lines.proofs.Reading.{Left}
use Rattle.snapshot.specs.Texts.{deliveries_ok}
use Rattle.snapshot.proofs.check_deliveries.Given as goal

abbrev pub invariant-loop-i : goal.invariant-loop-i
invariant-loop-i l = Left (λ k x. deliveries_ok l.lo l.hi k x l.text) 34 l.at l.n l.i l.e
