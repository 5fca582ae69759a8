-- `permitted::mark` meets its contract: one flag more with each turn. Whether an end parts equal growers asks nothing of the other slices. Assumes nothing.
use Rattle.std.proofs.Common.{◌≡◌, arith}
use Rattle.permitted.proofs.Given.{marked_start, marked_more}
use Rattle.permitted.proofs.mark.Goals as goal

pub loop-i-init : goal.loop-i-init
loop-i-init c = marked_start _ _

pub bounds-fits-i : goal.bounds-fits-i
bounds-fits-i c = omega (arith, c.loop-i.invariant.long)

pub loop-i-preserved : goal.loop-i-preserved
loop-i-preserved c = marked_more _ _ _ _ _ c.loop-i.invariant (omega arith) c.separates_none-v.ensures

pub returns : goal.returns
returns c =
    let x : c.loop-i.i ≡ c.args.n = omega arith in
    rw x at c.loop-i.invariant
