-- `Task::fill_tails`: one end more (`tails_more`).
use Rattle.std.proofs.Common.{◌≡◌, arith}
use Rattle.layout_search.specs.Given.{task_given}
use Rattle.layout_search.proofs.TailLaws.{tails_more}
use Rattle.layout_search.proofs.Task.fill_tails.Goals as goal

pub loop-e-preserved : goal.loop-e-preserved
loop-e-preserved c = tails_more _ (task_given c.args.self) _ _ _ _ _ c.loop-e.invariant c.loop-e-test.true (rw c.unwrap_or.ensures c.tail.ensures)

pub returns : goal.returns
returns c = let x : c.loop-e.e ≡ c.args.self.sums.blocks = omega arith in rw x at c.loop-e.invariant
