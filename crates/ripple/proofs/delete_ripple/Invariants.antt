-- `p` is the last slot of the first `j` partitions, and what is left to do from there gives each slice what it would have given where the loop began (`Lowered`).
use Rattle.std.proofs.Common.{◌+◌}
use Rattle.ripple.specs.Held.{slices_held, Keeps}
use Rattle.ripple.proofs.Loops.{Spot}
use Rattle.ripple.proofs.EachSlice.{EachLowered}
use Rattle.ripple.proofs.delete_ripple.Given as goal

abbrev pub invariant-loop-j : goal.invariant-loop-j
invariant-loop-j l = record {
  spot : Spot l.lens (l.p + 1) l.j;
  keeps : Keeps l.initial.r l.r;
  slots : EachLowered l.lens l.d (slices_held l.initial.r) l.initial.p (1) (slices_held l.r) l.p l.j;
}
