-- `Task::write_ends`: the best first end of the rest is the next (`walked_first`).
use Rattle.std.proofs.Common.{arith}
use Rattle.layout_search.specs.Given.{task_given}
use Rattle.layout_search.proofs.RowLaws.{walked_first, walked_more}
use Rattle.layout_search.proofs.Task.write_ends.Goals as goal

pub loop-i-preserved : goal.loop-i-preserved
loop-i-preserved c =
    let w = c.loop-i.invariant in
    walked_more (task_given c.args.self) _ _ _ _ _ _ _ w c.loop-i-test.true (omega arith) (walked_first _ _ _ _ _ _ _ _ _ w c.loop-i-test.true c.requires.rows c.best_of-best.ensures)
