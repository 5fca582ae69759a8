use Rattle.std.proofs.Common.{arith}
use Rattle.csv_fields.proofs.NumberLaws.{shorter_start, shorter_next}
use Rattle.csv_fields.proofs.short_at.Goals as goal

pub loop-k-init : goal.loop-k-init
loop-k-init c = shorter_start _ _ _ (omega arith) (omega arith)

pub loop-k-preserved : goal.loop-k-preserved
loop-k-preserved c = shorter_next c.loop-k.invariant (omega arith) (omega arith) (c.digit_of-d.ensures (omega arith)) (omega arith)
