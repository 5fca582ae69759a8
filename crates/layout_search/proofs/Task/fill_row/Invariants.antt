-- The row's numbers before `a` are the best, and the rows before it stay.
use Rattle.layout_search.specs.Given.{task_given}
use Rattle.layout_search.proofs.RowLaws.{Filling}
use Rattle.layout_search.proofs.Task.fill_row.Given as goal

abbrev pub invariant-loop-a : goal.invariant-loop-a
invariant-loop-a l = Filling (task_given l.self) l.k l.a l.fn.table l.table
