-- `low` is the least number in fewer than `k` partitions, and `few` the fewest that have it.
use Rattle.std.proofs.Common.{◌≤◌, ◌^◌}
use Rattle.layout_search.specs.Table.{val_of, Lowest}
use Rattle.layout_search.proofs.Task.fewest.Given as goal

abbrev pub invariant-loop-k : goal.invariant-loop-k
invariant-loop-k l = Lowest (λ j. val_of l.self.sums.blocks l.table j 0) l.k l.few l.low × (l.low ≤ 2 ^ 62)
