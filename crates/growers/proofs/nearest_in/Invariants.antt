-- `growers::nearest_in`: of the growers passed the first.
use Rattle.growers.proofs.nearest_in.Given as goal
use Rattle.growers.proofs.Nearing.{Nearing}

abbrev pub invariant-loop-x : goal.invariant-loop-x
invariant-loop-x g l = Nearing g.W.Way.direction l.fn.g l.fn.s l.nearest l.x-index
