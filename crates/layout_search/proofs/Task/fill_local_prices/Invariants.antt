-- The prices of the first blocks before `a` are in place.
use Rattle.layout_search.specs.Table.{LocalPrices}
use Rattle.layout_search.proofs.Task.fill_local_prices.Given as goal

abbrev pub invariant-loop-a : goal.invariant-loop-a
invariant-loop-a l = LocalPrices l.self.sums.places.now l.self.sums.blocks l.a l.table
