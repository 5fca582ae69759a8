-- The sums up to place `i` are in place.
use Rattle.std.proofs.Common.{◌+◌, ◌*◌}
use Rattle.model.specs.Bounds.{block_limit}
use Rattle.layout_search.specs.RunningSums.{sums_per_place}
use Rattle.block_costs.specs.Terms.{Loaded}
use Rattle.block_costs.proofs.PricedCounts.add_up.Given as goal

abbrev pub invariant-loop-i : goal.invariant-loop-i
invariant-loop-i l = Loaded block_limit l.self.card l.self.histograms.now ((l.i + 1) * sums_per_place) l.fn.sums l.sums
