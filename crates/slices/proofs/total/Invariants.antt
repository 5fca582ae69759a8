-- The sum of the numbers passed so far, and a bound of it.
use Rattle.std.proofs.Common.{◌≡◌, ◌*◌, ◌≤◌, take}
use Rattle.model.specs.Lists.{sum_of}
use Rattle.slices.proofs.total.Given as goal

abbrev pub invariant-loop-x : goal.invariant-loop-x
invariant-loop-x l = (l.sum ≡ sum_of (take l.x-index l.s)) × (l.sum ≤ 4294967295 * l.x-index)
