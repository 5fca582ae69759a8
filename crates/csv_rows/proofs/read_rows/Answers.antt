use Rattle.std.proofs.Common.{arith}
use Rattle.csv_rows.proofs.StoreLaws.{read_start, read_stored, read_passed, read_bad, read_end}
use Rattle.csv_rows.proofs.read_rows.Goals as goal

pub loop-i-init : goal.loop-i-init
loop-i-init c = read_start c.requires.0 c.requires.1

pub returns-in_err-row : goal.returns-in_err-row
returns-in_err-row c = rw c.from_residual.ensures (read_bad c.loop-i.invariant (omega arith) c.in_err-row.ensures)

pub loop-i-preserved-then-k-room : goal.loop-i-preserved-then-k-room
loop-i-preserved-then-k-room c = read_stored c.loop-i.invariant (omega arith) c.in_ok-row.ensures (omega arith)

pub loop-i-preserved : goal.loop-i-preserved
loop-i-preserved c = read_passed c.loop-i.invariant (omega arith) c.in_ok-row.ensures c.if-k-room.false

pub returns : goal.returns
returns c = read_end c.loop-i.invariant c.loop-i-test.false
