-- `grower_count::fill`: what the contract says of the slots passed, and that no more were added than passed, so that a batch that has become full has
-- taken a slot. Assumes nothing.
use Rattle.std.proofs.Common.{◌+◌, ◌≤◌}
use Rattle.grower_count.specs.Batches.{during, FilledUp}
use Rattle.grower_count.proofs.fill.Given as goal

abbrev pub invariant-loop-i : goal.invariant-loop-i
invariant-loop-i l = record {
  filled : FilledUp l.r.growers.now (during l.q l.r.days.now) l.q.lo l.from l.initial.batch l.held l.batch l.n l.i;
  taken : l.n + l.from ≤ l.held + l.i;
}
