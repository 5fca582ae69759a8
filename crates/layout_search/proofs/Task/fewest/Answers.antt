-- `Task::fewest`: there is no layout in no partition.
use Rattle.std.proofs.Common.{refl, arith}
use Rattle.layout_search.proofs.RowLaws.{val_none, lowest_start}
use Rattle.layout_search.proofs.Task.fewest.Goals as goal

pub loop-k-init : goal.loop-k-init
loop-k-init c = (lowest_start _ _ (val_none _ _ _ _ (λ e. omega arith) refl), omega arith)
