-- Each test decides one side of a conjunction.
use Rattle.std.proofs.Common.{sym, ap, ◌∙◌, arith}
use Rattle.model.specs.Bounds.{block_limit}
use Rattle.model.specs.Lists.{sum_of, rising}
use Rattle.snapshot.proofs.Judging.{few_lengths, not-rising, other_sum, parts_asked, same_sum}
use Rattle.snapshot.proofs.check_numbers.Goals as goal

pub returns-then-not-strictly_rising : goal.returns-then-not-strictly_rising
returns-then-not-strictly_rising c = not-rising block_limit _ _ _ _ (sym (c.if-not-strictly_rising.ensures ∙ ap rising c.fences-fences.ensures))

pub total-requires : goal.total-requires
total-requires c = omega (arith, few_lengths block_limit _ c.requires.0 c.lengths-lens.ensures)

pub returns-then-total-m : goal.returns-then-total-m
returns-then-total-m c =
    other_sum block_limit _ _ _ _ (sym (c.if-not-strictly_rising.ensures ∙ ap rising c.fences-fences.ensures))
    (λ z. omega (arith, z, c.total.ensures ∙ ap sum_of c.lengths-lens.ensures))

pub check_parts-requires : goal.check_parts-requires
check_parts-requires c =
    parts_asked block_limit c.args.text.now c.args.start c.args.numbers.now c.args.m c.lengths-lens.ensures c.fences-fences.ensures
    (sym (c.if-not-strictly_rising.ensures ∙ ap rising c.fences-fences.ensures)) (omega (arith, c.total.ensures ∙ ap sum_of c.lengths-lens.ensures))
    c.requires.0 c.requires.1

pub returns : goal.returns
returns c =
    same_sum block_limit _ _ _ _ c.lengths-lens.ensures c.fences-fences.ensures
    (sym (c.if-not-strictly_rising.ensures ∙ ap rising c.fences-fences.ensures)) (omega (arith, c.total.ensures ∙ ap sum_of c.lengths-lens.ensures))
    _ c.check_parts.ensures
