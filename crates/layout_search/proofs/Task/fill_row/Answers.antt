-- `Task::fill_row`: one number more (`filling_more`).
use Rattle.std.proofs.Common.{arith}
use Rattle.layout_search.proofs.RowLaws.{filling_more, filling_done}
use Rattle.layout_search.proofs.Task.fill_row.Goals as goal

pub loop-a-preserved : goal.loop-a-preserved
loop-a-preserved c =
    let b = rw (← c.unwrap_or.ensures) at c.best_number-number.ensures in
    rw c.index.ensures (filling_more _ _ _ _ _ _ c.loop-a.invariant c.loop-a-test.true (omega arith) (omega arith) b)

pub returns-clause-row : goal.returns-clause-row
returns-clause-row c = filling_done _ _ _ _ _ c.loop-a.invariant c.loop-a-test.false
