use Rattle.std.proofs.Common.{arith}
use Rattle.csv_fields.proofs.NumberLaws.{digits_start, digits_next, digits_large}
use Rattle.csv_fields.proofs.digits_at.Goals as goal

pub loop-i-init : goal.loop-i-init
loop-i-init c = digits_start _ _ (omega arith)

pub returns-then-v-gt-MOST : goal.returns-then-v-gt-MOST
returns-then-v-gt-MOST c = digits_large c.loop-i.invariant (omega arith) (omega arith)

pub loop-i-preserved : goal.loop-i-preserved
loop-i-preserved c = digits_next c.loop-i.invariant (omega arith) (omega arith) (omega arith) (omega arith) (omega arith)
