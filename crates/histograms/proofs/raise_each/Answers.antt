-- `histograms::raise_each` meets its contract, by what is left to raise at each index.
use Rattle.std.proofs.Common.{arith}
use Rattle.histograms.proofs.Slots.{rest_start, rest_low, rest_next, rest_end}
use Rattle.histograms.proofs.raise_each.Goals as goal

pub loop-i-init : goal.loop-i-init
loop-i-init c = rest_start _ _ _ c.requires.0 c.requires.1 c.requires.2

pub overflow_add-h : goal.overflow_add-h
overflow_add-h c = omega (arith, rest_low _ _ _ _ _ c.loop-i-test.true c.loop-i.invariant)

pub loop-i-preserved : goal.loop-i-preserved
loop-i-preserved c = rest_next _ _ _ _ _ c.loop-i-test.true c.loop-i.invariant

pub returns : goal.returns
returns c = rest_end _ _ _ _ _ c.loop-i-test.false c.loop-i.invariant
