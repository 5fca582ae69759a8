-- A turn keeps the flag with the test of both numbers.
use Rattle.slices.proofs.Flags.{both_next, both_end}
use Rattle.slices.proofs.zeros.Goals as goal

pub loop-i-preserved : goal.loop-i-preserved
loop-i-preserved c = both_next _ _ _ _ c.loop-i-test.true c.requires c.loop-i.invariant

pub returns : goal.returns
returns c = both_end _ _ _ _ c.loop-i-test.false c.requires c.loop-i.invariant
