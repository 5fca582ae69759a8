-- The prices of the partitions from `a` that end before `e` are in place, past the rows of the table.
use Rattle.layout_search.specs.Table.{LocalRow}
use Rattle.layout_search.proofs.Task.fill_local_row.Given as goal

abbrev pub invariant-loop-e : goal.invariant-loop-e
invariant-loop-e l = LocalRow l.self.sums.places.now l.self.sums.blocks l.a l.e l.fn.table l.table
