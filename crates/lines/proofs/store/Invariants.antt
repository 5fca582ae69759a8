-- The slots passed hold the numbers passed, and the fields ahead are numbers.
use Rattle.lines.proofs.Storing.{Storing}
use Rattle.lines.proofs.store.Given as goal

abbrev pub invariant-loop-x : goal.invariant-loop-x
invariant-loop-x l = Storing l.text l.at l.initial.s l.s l.x-index l.e
