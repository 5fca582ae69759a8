-- `layplan_text::plan` meets its contract: the planner is asked with the numbers of the text, and its answer is the text's. Assumes nothing.
use Rattle.std.proofs.Common.{rules, sym, refl, ap, ◌∙◌, ℕ}
use lib.Seq.{length-take-le}
use Rattle.model.specs.Bounds.{block_limit}
use Rattle.model.specs.Program.{refusal_text}
use Rattle.model.proofs.Refusals.{refusal_some}
use Rattle.layplan_text.specs.Texts.{output_of}
use Rattle.layplan_text.proofs.AnswerLaws.{Prices, plan_refuses, plan_fits, plan_few, plan_prints}
use Rattle.layplan_text.proofs.plan.Goals as goal

pub slice_bounds-ends-end : goal.slice_bounds-ends-end
slice_bounds-ends-end c =
    let p : Prices c.args.text.now c.card_of-card.result c.limits_of-limits.result = record { card = c.card_of-card.ensures; limit = c.limits_of-limits.ensures } in
    (plan_fits block_limit _ _ _ p _ _ c.in-Ok.ensures refl).count_in

pub slice_bounds-planned-end : goal.slice_bounds-planned-end
slice_bounds-planned-end c =
    let p : Prices c.args.text.now c.card_of-card.result c.limits_of-limits.result = record { card = c.card_of-card.ensures; limit = c.limits_of-limits.ensures } in
    sym (length-take-le _ _ (plan_fits block_limit _ _ _ p _ _ c.in-Ok.ensures refl).count_in)

pub planned-requires : goal.planned-requires
planned-requires c =
    let p : Prices c.args.text.now c.card_of-card.result c.limits_of-limits.result = record { card = c.card_of-card.ensures; limit = c.limits_of-limits.ensures } in
    (plan_few block_limit _ _ _ p _ _ c.in-Ok.ensures refl, (plan_fits block_limit _ _ _ p _ _ c.in-Ok.ensures refl).fit)

pub returns-in-Ok : goal.returns-in-Ok
returns-in-Ok c =
    let p : Prices c.args.text.now c.card_of-card.result c.limits_of-limits.result = record { card = c.card_of-card.ensures; limit = c.limits_of-limits.ensures } in
    plan_prints block_limit _ _ _ p _ _ c.in-Ok.ensures _ refl (search rules) c.planned.ensures

pub returns-in-Err : goal.returns-in-Err
returns-in-Err c =
    let p : Prices c.args.text.now c.card_of-card.result c.limits_of-limits.result = record { card = c.card_of-card.ensures; limit = c.limits_of-limits.ensures } in
    plan_refuses block_limit _ _ _ p _ _ c.in-Err.ensures _ (refusal_some _) (c.one_number.ensures ∙ ap (λ (n : ℕ). output_of (refusal_text n)) c.number.ensures)
