-- `sets::CheckedSet::block_of` meets its contract: the block where the search stops is the one. Assumes nothing.
use Rattle.std.proofs.Common.{sym, arith}
use Rattle.sets.proofs.Sets.{blocks-least}
use Rattle.sets.proofs.Blocks.{seek_next, seek_found, seek_end}
use Rattle.sets.proofs.checked.CheckedSet.block_of.Goals as goal

pub overflow_sub-last : goal.overflow_sub-last
overflow_sub-last c = omega (arith, c.block_count-last.ensures, blocks-least c.args.self.sized)

pub loop-i-init : goal.loop-i-init
loop-i-init c =
    record { at = omega arith; is_last = omega (arith, c.block_count-last.ensures, blocks-least c.args.self.sized); before = λ j h. absurd (omega arith) }

pub returns-then-x-k : goal.returns-then-x-k
returns-then-x-k c = seek_found _ _ _ _ c.loop-i.invariant c.loop-i-test.true (rw (sym c.last_grower-k.ensures) c.if-x-k.true)

pub loop-i-preserved : goal.loop-i-preserved
loop-i-preserved c = seek_next _ _ _ _ c.loop-i.invariant c.loop-i-test.true (rw (sym c.last_grower-k.ensures) c.if-x-k.false)

pub returns : goal.returns
returns c = seek_end _ _ _ _ c.loop-i.invariant c.loop-i-test.false
