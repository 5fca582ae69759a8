-- The last digit that is left goes in its column.
use Rattle.std.proofs.Common.{arith}
use Rattle.csv_lines.proofs.WritingLaws.{plain_start, digits_next, digits_end}
use Rattle.csv_lines.proofs.put_plain.Goals as goal

pub loop-i-init : goal.loop-i-init
loop-i-init c = plain_start _ _ _ _ c.plain_length-digits.ensures c.requires

pub loop-i-preserved : goal.loop-i-preserved
loop-i-preserved c = digits_next c.loop-i.invariant (omega arith) (omega arith)

pub returns : goal.returns
returns c = record { bytes = digits_end c.loop-i.invariant (omega arith); on = omega (arith, c.plain_length-digits.ensures.is) }
