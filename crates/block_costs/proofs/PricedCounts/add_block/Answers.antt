-- `PricedCounts::add_block`: each sum at place `i + 1` is the one at place `i` and the block's term (`loaded_more`).
use Rattle.std.proofs.Common.{arith}
use Rattle.model.specs.Bounds.{block_limit}
use Rattle.block_costs.proofs.TermLaws.{next_fits, loaded_more}
use Rattle.block_costs.proofs.PricedCounts.add_block.Goals as goal

pub overflow_add-sums-in-loop-q : goal.overflow_add-sums-in-loop-q
overflow_add-sums-in-loop-q c =
    let s = c.args.self in
    let l = c.loop-q in
    omega (arith, next_fits block_limit s.card s.histograms.now c.args.i l.q _ _ _ l.invariant c.loop-q-test.true (c.terms-terms.ensures l.q c.loop-q-test.true) s.priced s.counted (omega arith))

pub loop-q-preserved : goal.loop-q-preserved
loop-q-preserved c =
    let l = c.loop-q in
    loaded_more block_limit _ _ _ l.q _ _ _ l.invariant c.loop-q-test.true (c.terms-terms.ensures l.q c.loop-q-test.true) (omega arith)
