-- The partitions that are left decide.
use Rattle.snapshot.proofs.Judging.{PartsLeft}
use Rattle.snapshot.proofs.check_parts.Given as goal

abbrev pub invariant-loop-p : goal.invariant-loop-p
invariant-loop-p l = PartsLeft l.text l.at l.lens l.fences l.p l.e
