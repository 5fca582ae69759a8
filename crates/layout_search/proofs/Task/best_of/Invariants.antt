-- `number` is the least that the ends before `e` offer, and `first` the first end that offers it.
use Rattle.layout_search.specs.Table.{val_of}
use Rattle.layout_search.specs.Given.{task_given}
use Rattle.layout_search.proofs.FirstLaws.{Tried}
use Rattle.layout_search.proofs.Task.best_of.Given as goal

abbrev pub invariant-loop-e : goal.invariant-loop-e
invariant-loop-e l = Tried (task_given l.self) (val_of l.self.sums.blocks l.table) l.a l.k l.e l.number l.first
