-- `sets::CheckedSet::block_of`: every block before `i` ends with a smaller grower (`Seeking`).
use Rattle.sets.specs.Checked.{checked_set}
use Rattle.sets.proofs.Blocks.{Seeking}
use Rattle.sets.proofs.checked.CheckedSet.block_of.Given as goal

abbrev pub invariant-loop-i : goal.invariant-loop-i
invariant-loop-i l = Seeking (checked_set l.self) l.x l.last l.i
