-- The weights passed so far are kept, and their days counted (`Kept`).
use Rattle.slices.proofs.Keeping.{Kept}
use Rattle.slices.proofs.keep_weights.Given as goal

abbrev pub invariant-loop-i : goal.invariant-loop-i
invariant-loop-i l = Kept l.days.first l.days.last l.r.weights.now l.r.days.now l.fn.kept l.kept l.k l.i
