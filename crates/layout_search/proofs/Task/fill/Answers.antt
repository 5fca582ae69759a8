-- `Task::fill`: one row more (`rows_more`), past which the local prices stay (`locals_kept`).
use Rattle.layout_search.specs.Given.{task_given}
use Rattle.layout_search.proofs.RowLaws.{rows-zero, rows_more}
use Rattle.layout_search.proofs.TailLaws.{locals_kept}
use Rattle.layout_search.proofs.Task.fill.Goals as goal

pub loop-k-init : goal.loop-k-init
loop-k-init c = (rows-zero (task_given c.args.self) _, c.fill_local_prices.ensures)

pub loop-k-preserved : goal.loop-k-preserved
loop-k-preserved c =
    let v = c.loop-k.invariant in
    let f = c.fill_row.ensures in
    (rows_more (task_given c.args.self) _ _ _ v.0 f.row f.kept, locals_kept _ _ _ _ _ f.kept v.1)
