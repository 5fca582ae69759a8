-- A turn keeps the flag with the test of its number.
use Rattle.slices.proofs.Flags.{flag_next, flag_end}
use Rattle.slices.proofs.within.Goals as goal

pub loop-x-preserved : goal.loop-x-preserved
loop-x-preserved c = flag_next _ _ _ _ c.loop-x-test.true c.loop-x.invariant

pub returns : goal.returns
returns c = flag_end _ _ _ _ c.loop-x-test.false c.loop-x.invariant
