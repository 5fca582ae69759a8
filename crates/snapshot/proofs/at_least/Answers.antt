-- The next number joins those passed, and the flag takes its test.
use Rattle.std.proofs.Common.{arith}
use Rattle.slices.proofs.Flags.{flag_next, flag_end}
use Rattle.snapshot.proofs.at_least.Goals as goal

pub loop-x-preserved : goal.loop-x-preserved
loop-x-preserved c = flag_next _ _ _ _ (omega arith) c.loop-x.invariant

pub returns : goal.returns
returns c = flag_end _ _ _ _ (omega arith) c.loop-x.invariant
