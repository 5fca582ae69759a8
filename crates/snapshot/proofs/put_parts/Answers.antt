-- The line written is the first of those that are left.
use Rattle.std.proofs.Common.{arith}
use Rattle.snapshot.proofs.Putting.{parts_start, part_room, parts_next, parts_end}
use Rattle.snapshot.proofs.put_parts.Goals as goal

pub loop-i-init : goal.loop-i-init
loop-i-init c = parts_start _ _ _ _ c.requires.0 c.requires.1

pub put_line-requires : goal.put_line-requires
put_line-requires c = part_room c.loop-i.invariant c.loop-i-test.true

pub loop-i-preserved : goal.loop-i-preserved
loop-i-preserved c = parts_next c.loop-i.invariant c.loop-i-test.true _ c.put_line.ensures

pub returns : goal.returns
returns c = parts_end c.loop-i.invariant (omega arith)
