-- What the pass has found of the partitions so far (`Surveying`).
use Rattle.slices.proofs.Places.{Surveying}
use Rattle.slices.proofs.surveyed.Given as goal

abbrev pub invariant-loop-i : goal.invariant-loop-i
invariant-loop-i l = Surveying l.lens l.fences l.g l.rising l.used l.target l.start l.i
