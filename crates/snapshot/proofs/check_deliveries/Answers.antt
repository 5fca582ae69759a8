-- A good line leaves those behind it.
use Rattle.std.proofs.Common.{ap, arith}
use Rattle.lines.specs.Lines.{text_checked}
use Rattle.lines.proofs.Reading.{met, refused_on, left_stop, left_next, left_end}
use Rattle.snapshot.proofs.Judging.{deliveries_judge}
use Rattle.snapshot.proofs.check_deliveries.Goals as goal

pub returns-in_err-check_delivery : goal.returns-in_err-check_delivery
returns-in_err-check_delivery c =
    refused_on _ _ _ _ _ _ c.from_residual.ensures.1 c.in_err-check_delivery.ensures (left_stop (deliveries_judge _ _ _) c.loop-i.invariant c.loop-i-test.true)

pub loop-i-preserved : goal.loop-i-preserved
loop-i-preserved c = left_next (deliveries_judge _ _ _) c.loop-i.invariant c.loop-i-test.true (met _ _ c.in_ok-check_delivery.ensures).0

pub returns : goal.returns
returns c = ap text_checked (left_end (deliveries_judge _ _ _) c.loop-i.invariant (omega arith))
