-- `Task::fill_local_prices`: one first block more (`locals_more`).
use Rattle.layout_search.proofs.TailLaws.{locals_more}
use Rattle.layout_search.proofs.Task.fill_local_prices.Goals as goal

pub loop-a-preserved : goal.loop-a-preserved
loop-a-preserved c = locals_more _ _ _ _ _ c.loop-a.invariant c.fill_local_row.ensures
