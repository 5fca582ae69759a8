-- `grower_count::cut`: the slots kept have the growers of the slots read, each once, and what is not read is as it was. Assumes nothing.
use Rattle.grower_count.proofs.Cutting.{Cutting}
use Rattle.grower_count.proofs.cut.Given as goal

abbrev pub invariant-loop-i : goal.invariant-loop-i
invariant-loop-i l = Cutting l.growers l.initial.batch l.batch l.last l.n l.i
