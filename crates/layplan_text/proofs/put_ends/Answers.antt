-- The line written is the first of those that are left.
use Rattle.layplan_text.proofs.Outputs.{put_ends_next, put_ends_end}
use Rattle.layplan_text.proofs.put_ends.Goals as goal

pub loop-last-preserved : goal.loop-last-preserved
loop-last-preserved c = put_ends_next c.loop-last-test.true c.loop-last.invariant c.put_line.ensures

pub returns : goal.returns
returns c = put_ends_end c.loop-last-test.false c.loop-last.invariant
