use Rattle.std.proofs.Common.{arith}
use Rattle.lines.proofs.Putting.{columns_start, columns_next, columns_end}
use Rattle.lines.proofs.put_line.Goals as goal

pub loop-n-init : goal.loop-n-init
loop-n-init c = record { here = omega arith; so_far = columns_start _ _ }

pub loop-n-preserved : goal.loop-n-preserved
loop-n-preserved c =
    let v = c.loop-n.invariant in
    record { here = omega arith; so_far = columns_next _ _ _ c.requires v.here v.so_far c.loop-n-test.true c.put_number.ensures }

pub returns : goal.returns
returns c = let v = c.loop-n.invariant in columns_end _ _ _ c.requires v.here v.so_far (omega arith)
