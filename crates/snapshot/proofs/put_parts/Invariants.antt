-- The lines that are left, written from here on, make the whole.
use Rattle.snapshot.proofs.Putting.{PutParts}
use Rattle.snapshot.proofs.put_parts.Given as goal

abbrev pub invariant-loop-i : goal.invariant-loop-i
invariant-loop-i l = PutParts l.initial.text l.at l.lens l.fences l.text l.i l.e
