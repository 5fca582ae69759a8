-- The first `i` ends are those of the first least layout, and the table has a number for the rest.
use Rattle.layout_search.specs.Given.{task_given}
use Rattle.layout_search.proofs.RowLaws.{Walked}
use Rattle.layout_search.proofs.Task.write_ends.Given as goal

abbrev pub invariant-loop-i : goal.invariant-loop-i
invariant-loop-i l = Walked (task_given l.self) l.table l.k l.i l.a l.fn.out l.out
