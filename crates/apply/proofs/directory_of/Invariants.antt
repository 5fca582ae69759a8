-- `apply::directory_of`: the first i partitions of the layout are put (`Filling`).
use Rattle.std.proofs.Common.{◌-◌, length}
use Rattle.model.specs.Bounds.{block_limit}
use Rattle.sets.specs.Checked.{checked_set}
use Rattle.apply.proofs.Filling.{Filling}
use Rattle.apply.proofs.directory_of.Given as goal

abbrev pub invariant-loop-i : goal.invariant-loop-i
invariant-loop-i l = Filling block_limit (checked_set l.set) l.ends l.d l.start l.i

-- The ends that are left. A `for` has need of none: it is what an edit that takes the step away is held to.
abbrev pub decreases-loop-i : goal.decreases-loop-i
decreases-loop-i l = length l.ends - l.i
