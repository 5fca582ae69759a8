-- `planner::cost` meets its contract. Past the checks, the layout covers the blocks whose running sums `add_up` leaves, and `cost_answered` takes its number to
-- its cost. Assumes nothing.
use Rattle.std.proofs.Common.{sym, ap, ◌∙◌, arith}
use Rattle.std.proofs.lemmas.Result.{err_from_is_err_and}
use Rattle.model.specs.Bounds.{block_limit}
use Rattle.model.specs.Blocks.{blocks}
use Rattle.model.specs.Lent.{set_given}
use Rattle.layout_search.proofs.Bias.{held-cost}
use Rattle.sets.proofs.Sets.{blocks_most}
use Rattle.block_costs.proofs.TermLaws.{summed_holds}
use Rattle.permitted.proofs.Given.{cost_given}
use Rattle.planner.proofs.Answers.{cost_refused, layout_covers_blocks, cost_answered}
use Rattle.planner.proofs.cost.Goals as goal

pub returns-in_err-checked : goal.returns-in_err-checked
returns-in_err-checked c =
    let p = err_from_is_err_and c.from_residual.result c.from_residual.ensures.1 in
    rw (p.1, p.2) (cost_refused block_limit _ _ _ _ _ c.in_err-checked.ensures.answer)

pub invariant_of-counts : goal.invariant_of-counts
invariant_of-counts c =
    let g = (cost_given block_limit _ _ _ _ (sym c.in_ok-checked.ensures.answer)).0 in
    record { priced = g.prices; counted = g.counts }

pub add_up-requires : goal.add_up-requires
add_up-requires c = omega (arith, blocks_most c.in_ok-checked.checked.sized, c.block_count-blocks.ensures)

pub invariant_of-given : goal.invariant_of-given
invariant_of-given c =
    let s = c.in_ok-checked.ensures in
    let g = (cost_given block_limit _ _ _ _ (sym s.answer)).0 in
    let l = c.add_up.ensures in
    let f = c.block_count-blocks.ensures ∙ ap blocks s.accepted in
    record { hold = summed_holds _ _ _ _ _ l.summed g.prices g.counts (omega (arith, f, g.few)) (omega (arith, f, g.few, l.long)) }

pub layout_number-m-requires : goal.layout_number-m-requires
layout_number-m-requires c =
    let s = c.in_ok-checked.ensures in
    let g = cost_given block_limit _ _ _ _ (sym s.answer) in
    rw (c.block_count-blocks.ensures ∙ ap blocks s.accepted) (layout_covers_blocks (set_given c.args.set) c.args.ends.now g.1)

pub returns : goal.returns
returns c =
    let s = c.in_ok-checked.ensures in
    let g = cost_given block_limit _ _ _ _ (sym s.answer) in
    let m = c.layout_number-m in
    cost_answered block_limit _ _ _ _ _ _ _ _ s.answer g.1 (c.block_count-blocks.ensures ∙ ap blocks s.accepted) c.add_up.ensures.summed m.ensures
    (held-cost _ m.ensures.small _ c.unbiased.ensures)
