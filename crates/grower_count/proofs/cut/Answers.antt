-- `grower_count::cut`: a slot of another grower than the one before adds him, and a slot of the same adds none. Assumes nothing.
use Rattle.std.proofs.Common.{arith, rules}
use Rattle.grower_count.proofs.Cutting.{cut_none, cutting_start, slot_read, slot_inside, cutting_new, cutting_old}
use Rattle.grower_count.proofs.cut.Goals as goal
use Rattle.grower_count.proofs.cut.Goals.{then-g-last, else-g-last}

pub returns-then-is_empty : goal.returns-then-is_empty
returns-then-is_empty c = cut_none _ _ (search rules)

pub bounds-growers-batch : goal.bounds-growers-batch
bounds-growers-batch c = slot_inside c.args.growers.now c.args.batch.now 0 c.requires.0 (search rules)

pub loop-i-init : goal.loop-i-init
loop-i-init c = cutting_start _ _ (search rules) c.requires.0

pub bounds-growers-s : goal.bounds-growers-s
bounds-growers-s c = slot_read _ c.loop-i.invariant (omega arith) c.requires.0

pub loop-i-preserved : goal.loop-i-preserved
loop-i-preserved c =
    elim c.if-g-last.branch [
      | then-g-last w ↦ cutting_new _ c.loop-i.invariant (omega arith) _ c.requires.0 c.requires.1 w.if-g-last.true w.n-is
      | else-g-last w ↦ cutting_old _ c.loop-i.invariant (omega arith) _ w.if-g-last.false w.n-is
    ]
