-- A line's two numbers go into the two halves, in their places.
use Rattle.std.proofs.Common.{arith}
use Rattle.model.specs.Bounds.{block_limit}
use Rattle.lines.proofs.Reading.{refused_on}
use Rattle.snapshot.proofs.Judging.{list_start, list_stop, list_next, list_end}
use Rattle.snapshot.proofs.list_parts.Goals as goal

pub loop-i-init : goal.loop-i-init
loop-i-init c = rw c.blank-directory.ensures (list_start block_limit _ _ _ c.requires)

pub returns-in_err-records : goal.returns-in_err-records
returns-in_err-records c = refused_on _ _ _ _ _ _ c.from_residual.ensures.1 c.in_err-records.ensures (list_stop c.loop-i.invariant c.loop-i-test.true)

pub loop-i-preserved : goal.loop-i-preserved
loop-i-preserved c = list_next c.loop-i.invariant c.loop-i-test.true _ _ c.in_ok-records.ensures c.put.ensures

pub returns : goal.returns
returns c = list_end c.loop-i.invariant (omega arith)
