-- The line written is the first of those that are left.
use Rattle.std.proofs.Common.{arith}
use Rattle.snapshot.proofs.Putting.{rows_start, row_room, rows_next, rows_end}
use Rattle.snapshot.proofs.put_rows.Goals as goal

pub loop-i-init : goal.loop-i-init
loop-i-init c = rows_start _ _ _ c.args.r.even c.requires

pub put_line-requires : goal.put_line-requires
put_line-requires c = row_room c.loop-i.invariant (omega arith)

pub loop-i-preserved : goal.loop-i-preserved
loop-i-preserved c = rows_next c.loop-i.invariant (omega arith) _ c.put_line.ensures

pub returns : goal.returns
returns c = rows_end c.loop-i.invariant (omega arith)
