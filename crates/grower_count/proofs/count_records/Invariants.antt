-- `grower_count::count_records`: the growers counted are those below `lo`; with those that are at least `lo` they are all. Each turn fewer are left.
-- Assumes nothing.
use Rattle.std.proofs.Common.{length}
use Rattle.grower_count.specs.Batches.{during}
use Rattle.grower_count.proofs.Counting.{held, left, Counted}
use Rattle.grower_count.proofs.count_records.Given as goal

abbrev pub invariant-loop-days : goal.invariant-loop-days
invariant-loop-days l = Counted l.r.growers.now (during (record { lo = 0; days = l.days }) l.r.days.now) l.total l.lo

abbrev pub decreases-loop-days : goal.decreases-loop-days
decreases-loop-days l = length (left (held l.r.growers.now (during (record { lo = 0; days = l.days }) l.r.days.now)) l.lo)
