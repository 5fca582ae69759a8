-- One more number is added.
use Rattle.std.proofs.Common.{refl, arith}
use Rattle.model.specs.Lists.{sum_of}
use Rattle.model.proofs.ListLaws.{sum-take_next}
use Rattle.slices.proofs.total.Goals as goal

pub loop-x-init : goal.loop-x-init
unfolding sum_of
loop-x-init c = (refl, omega arith)

pub loop-x-preserved : goal.loop-x-preserved
loop-x-preserved c =
    let l = c.loop-x in
    (omega (arith, sum-take_next c.args.s.now l.x-index (omega arith)), omega (arith, c.type_inv.s l.x-index))
