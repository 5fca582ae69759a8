-- The next slot takes the next field's number, a line further.
use Rattle.std.proofs.Common.{arith}
use Rattle.lines.proofs.Storing.{store_start, store_field, store_next, store_end}
use Rattle.lines.proofs.store.Goals as goal

pub loop-x-init : goal.loop-x-init
loop-x-init c = store_start _ _ _ c.requires.2

pub spelled_at-requires : goal.spelled_at-requires
spelled_at-requires c = store_field c.loop-x.invariant (omega arith)

pub loop-x-preserved : goal.loop-x-preserved
loop-x-preserved c = store_next c.loop-x.invariant (omega arith) c.spelled_at.ensures

pub returns : goal.returns
returns c = store_end c.loop-x.invariant (omega arith)
