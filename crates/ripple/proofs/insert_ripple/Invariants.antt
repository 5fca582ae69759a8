-- The first `j` partitions end at `p` and are as they were, and those from `j` on have moved up by one (`Lifted`).
use Rattle.std.proofs.Common.{◌≤◌, ◌<◌, length}
use Rattle.ripple.specs.Held.{slices_held, Keeps}
use Rattle.ripple.proofs.Loops.{Spot}
use Rattle.ripple.proofs.EachSlice.{EachLifted}
use Rattle.ripple.proofs.insert_ripple.Given as goal

abbrev pub invariant-loop-j : goal.invariant-loop-j
invariant-loop-j l = record {
  spot : Spot l.lens l.p l.j;
  past : 1 ≤ l.j;
  room : l.p < length l.initial.r.growers.now;
  keeps : Keeps l.initial.r l.r;
  slots : EachLifted l.lens (slices_held l.initial.r) (slices_held l.r) l.p l.j;
}
