-- A turn keeps the flag with the test of a number and the one before it; the closure's answer is that test's.
use Rattle.std.proofs.Common.{arith}
use Rattle.slices.proofs.Flags.{chain_turn, chain_end}
use Rattle.slices.proofs.neighbours.Goals as goal

pub loop-i-preserved : goal.loop-i-preserved
loop-i-preserved g c = λ p agree. chain_turn p _ _ _ c.loop-i.auto.i c.loop-i-test.true (c.loop-i.invariant p agree) _ (agree _ _ _ c.pass-good.ensures)

pub returns : goal.returns
returns g c = λ p agree. chain_end p _ _ _ (omega arith) (c.loop-i.invariant p agree)
