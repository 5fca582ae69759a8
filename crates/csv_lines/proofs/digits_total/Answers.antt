-- The next number's digits join those counted.
use Rattle.std.proofs.Common.{arith}
use Rattle.csv_lines.proofs.PlainLaws.{count_start, count_next, count_end}
use Rattle.csv_lines.proofs.digits_total.Goals as goal

pub loop-n-init : goal.loop-n-init
loop-n-init c = count_start _

pub loop-n-preserved : goal.loop-n-preserved
loop-n-preserved c = count_next c.loop-n.invariant c.loop-n-test.true c.plain_length-total.ensures

pub returns : goal.returns
returns c = count_end c.loop-n.invariant (omega arith) c.requires
