-- The line, the fences or the range refuse the delivery.
use Rattle.lines.proofs.Reading.{refused_on}
use Rattle.snapshot.proofs.Judging.{no_delivery, below_low, above_high, range_decides}
use Rattle.snapshot.proofs.check_delivery.Goals as goal
use Rattle.snapshot.proofs.check_delivery.Goals.{then-grower-lo-via-then-grower-lo, then-grower-lo-via-else-grower-lo+then-hi-grower}

pub returns-in_err-grower : goal.returns-in_err-grower
returns-in_err-grower c = refused_on _ _ _ _ _ _ c.from_residual.ensures.1 c.in_err-grower.ensures (no_delivery _ _ _ _)

pub returns-then-grower-lo : goal.returns-then-grower-lo
returns-then-grower-lo c =
    elim c.then-grower-lo.branch [
      | then-grower-lo-via-then-grower-lo w ↦ below_low _ _ _ _ _ c.in_ok-grower.ensures w.if-grower-lo.true
      | then-grower-lo-via-else-grower-lo+then-hi-grower w ↦ above_high _ _ _ _ _ c.in_ok-grower.ensures w.if-grower-lo.false w.if-hi-grower.true
    ]

pub returns-then-not-in_range : goal.returns-then-not-in_range
returns-then-not-in_range c = range_decides _ _ _ _ _ c.in_ok-grower.ensures c.if-grower-lo.false c.if-hi-grower.false _ c.if-not-in_range.ensures

pub returns : goal.returns
returns c = range_decides _ _ _ _ _ c.in_ok-grower.ensures c.if-grower-lo.false c.if-hi-grower.false _ c.if-not-in_range.ensures
