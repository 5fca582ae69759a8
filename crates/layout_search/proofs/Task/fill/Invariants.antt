-- The rows up to `k` are right, and the local prices stay.
use Rattle.layout_search.specs.Table.{Rows, LocalPrices}
use Rattle.layout_search.specs.Given.{task_given}
use Rattle.layout_search.proofs.Task.fill.Given as goal

abbrev pub invariant-loop-k : goal.invariant-loop-k
invariant-loop-k l = Rows (task_given l.self) l.k l.table × LocalPrices l.self.sums.places.now l.self.sums.blocks l.self.sums.blocks l.table
