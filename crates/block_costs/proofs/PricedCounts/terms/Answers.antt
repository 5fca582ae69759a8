-- `PricedCounts::terms`: the seven in their order (`picked`); the two weighted ones fit.
use Rattle.std.proofs.Common.{arith}
use Rattle.model.specs.Bounds.{block_limit}
use Rattle.block_costs.specs.Terms.{term_of}
use Rattle.block_costs.proofs.TermLaws.{before_small, after_small, weighted_fits, picked}
use Rattle.block_costs.proofs.PricedCounts.terms.Goals as goal

pub overflow_mul-result : goal.overflow_mul-result
overflow_mul-result c =
    let a = c.args in
    let s = a.self in
    omega (arith, weighted_fits c.per_block_before-before.result a.i (rw c.per_block_before-before.ensures (before_small block_limit s.card s.histograms.now a.i s.priced s.counted)) c.requires)

pub overflow_mul-result-2 : goal.overflow_mul-result-2
overflow_mul-result-2 c =
    let a = c.args in
    let s = a.self in
    omega (arith, weighted_fits c.per_block_after-after.result a.i (rw c.per_block_after-after.ensures (after_small block_limit s.card s.histograms.now a.i s.priced s.counted)) c.requires)

pub returns : goal.returns
unfolding term_of
returns c = λ q h.
    rw (← c.fixed.ensures, ← c.per_block_before-before.ensures, ← c.per_block_after-after.ensures, ← c.per_partition_added.ensures, ← c.per_partition_saved.ensures)
    (picked _ _ _ _ _ _ _ q h)
