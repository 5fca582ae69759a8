-- `planner::plan` meets its contract. Past the checks, what `add_up` and `mark` leave is the search's task, and `answered_plan` takes the search's answer to
-- the model's. Assumes nothing.
use Rattle.std.proofs.Common.{sym, ap, ◌∙◌, arith}
use Rattle.std.proofs.lemmas.Result.{err_from_is_err_and}
use Rattle.model.specs.Bounds.{block_limit}
use Rattle.model.specs.Blocks.{blocks}
use Rattle.sets.proofs.Sets.{blocks_most}
use Rattle.block_costs.proofs.TermLaws.{summed_holds}
use Rattle.permitted.proofs.Given.{plan_given, marked_all}
use Rattle.planner.proofs.Answers.{plan_not_given, answered_plan}
use Rattle.planner.proofs.plan.Goals as goal

pub returns-in_err-checked : goal.returns-in_err-checked
returns-in_err-checked c =
    let p = err_from_is_err_and c.from_residual.result c.from_residual.ensures.1 in
    rw (p.1, p.2) (plan_not_given block_limit _ _ _ _ _ _ c.in_err-checked.ensures.answer)

pub longest_partition-longest-requires : goal.longest_partition-longest-requires
longest_partition-longest-requires c = (plan_given block_limit _ _ _ _ (sym c.in_ok-checked.ensures.answer)).prices

pub most_partitions-most-requires : goal.most_partitions-most-requires
most_partitions-most-requires c = (plan_given block_limit _ _ _ _ (sym c.in_ok-checked.ensures.answer)).prices

pub invariant_of-counts : goal.invariant_of-counts
invariant_of-counts c =
    let g = plan_given block_limit _ _ _ _ (sym c.in_ok-checked.ensures.answer) in
    record { priced = g.prices; counted = g.counts }

pub add_up-requires : goal.add_up-requires
add_up-requires c = omega (arith, blocks_most c.in_ok-checked.checked.sized, c.block_count-n.ensures)

pub mark-requires : goal.mark-requires
mark-requires c =
    let z = c.in_ok-checked.checked.sized in
    let n = c.block_count-n.ensures in
    record { sized = z; n_le_block_limit = (omega (arith, blocks_most z, n), omega (arith, blocks_most z, n)) }

pub invariant_of-task : goal.invariant_of-task
invariant_of-task c =
    let s = c.in_ok-checked.ensures in
    let g = plan_given block_limit _ _ _ _ (sym s.answer) in
    let l = c.add_up.ensures in
    let f = c.block_count-n.ensures ∙ ap blocks s.accepted in
    record { hold = summed_holds _ _ _ _ _ l.summed g.prices g.counts (omega (arith, f, g.few)) (omega (arith, f, g.few, l.long)) }

pub searched-requires : goal.searched-requires
searched-requires c =
    let s = c.in_ok-checked.ensures in
    let g = plan_given block_limit _ _ _ _ (sym s.answer) in
    omega (arith, g.some, g.few, c.block_count-n.ensures ∙ ap blocks s.accepted)

pub returns : goal.returns
returns c =
    let s = c.in_ok-checked.ensures in
    let n = c.block_count-n.ensures ∙ ap blocks s.accepted in
    let g = plan_given block_limit _ _ _ _ (sym s.answer) in
    answered_plan block_limit _ _ _ _ _ (sym s.answer) _ _ _ _ _ _ _ _ n c.longest_partition-longest.ensures c.most_partitions-most.ensures g.some c.add_up.ensures.summed
    (marked_all s.accepted n c.mark.ensures) c.searched.ensures
