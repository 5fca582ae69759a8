-- A partition whose lines are good between its fences leaves those behind it.
use Rattle.std.proofs.Common.{ap, arith}
use Rattle.lines.specs.Lines.{text_checked}
use Rattle.lines.proofs.Reading.{met, refused_on}
use Rattle.snapshot.proofs.Judging.{part_room, parts_stop, parts_next, parts_end}
use Rattle.snapshot.proofs.check_parts.Goals as goal

pub check_deliveries-requires : goal.check_deliveries-requires
check_deliveries-requires c = omega (arith, part_room c.loop-p.invariant c.loop-p-test.true, c.requires.2)

pub returns-in_err-check_deliveries : goal.returns-in_err-check_deliveries
returns-in_err-check_deliveries c =
    refused_on _ _ _ _ _ _ c.from_residual.ensures.1 c.in_err-check_deliveries.ensures
    (parts_stop c.loop-p.invariant c.loop-p-test.true c.low_of.ensures c.high_of.ensures)

pub loop-p-preserved : goal.loop-p-preserved
loop-p-preserved c = parts_next c.loop-p.invariant c.loop-p-test.true c.low_of.ensures c.high_of.ensures (met _ _ c.in_ok-check_deliveries.ensures).0

pub returns : goal.returns
returns c = ap text_checked (parts_end c.loop-p.invariant (omega arith))
