-- `grower_count::window`: the batch has a slot for each of the smallest growers of the slots passed. Assumes nothing.
use Rattle.std.proofs.Common.{◌-◌, ◌≤◌, length}
use Rattle.grower_count.specs.Batches.{during, Window}
use Rattle.grower_count.proofs.window.Given as goal

abbrev pub invariant-loop-i : goal.invariant-loop-i
invariant-loop-i l = record {
  held : Window l.r.growers.now (during l.q l.r.days.now) l.q.lo l.i l.batch l.n;
  inside : l.i ≤ length l.r.growers.now;
}

abbrev pub decreases-loop-i : goal.decreases-loop-i
decreases-loop-i l = length l.r.growers.now - l.i
