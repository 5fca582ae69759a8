-- The line written is the first of those that are left.
use Rattle.std.proofs.Common.{arith}
use Rattle.csv_lines.proofs.RowLaws.{rows_start, row_room, rows_next, rows_end}
use Rattle.csv_lines.proofs.put_rows.Goals as goal

pub loop-i-init : goal.loop-i-init
loop-i-init c = rows_start _ _ _ c.args.r.even c.requires

pub put_row-e-requires : goal.put_row-e-requires
put_row-e-requires c = row_room c.loop-i.invariant (omega arith)

pub loop-i-preserved : goal.loop-i-preserved
loop-i-preserved c = rows_next c.loop-i.invariant (omega arith) c.put_row-e.ensures

pub returns : goal.returns
returns c = rows_end c.loop-i.invariant (omega arith)
