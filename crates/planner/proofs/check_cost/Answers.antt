-- `planner::check_cost` meets its contract: past check 1, `check_layout` decides 2 to 8 and 19, and past them 9 is left to answer. Assumes nothing.
use Rattle.std.proofs.Common.{sym, [], ◌∷◌, ◌∙◌}
use Rattle.std.proofs.lemmas.Result.{err_from_is_err_and}
use Rattle.model.specs.Bounds.{block_limit}
use Rattle.model.specs.Checks.{ask}
use Rattle.model.specs.Questions.{apply_checks, cost_checks}
use Rattle.model.proofs.Refusals.{refusal_some}
use Rattle.checks.proofs.Answers.{fails, passes, none_failed, failed_first}
use Rattle.permitted.proofs.Given.{apply_passed}
use Rattle.planner.proofs.check_cost.Goals as goal

pub returns-then-not-prices_ok-clause-answer : goal.returns-then-not-prices_ok-clause-answer
unfolding cost_checks
returns-then-not-prices_ok-clause-answer c = fails 1 _ _ (sym c.prices_ok.ensures ∙ c.if-not-prices_ok.true)

pub returns-in_err-checked-clause-answer : goal.returns-in_err-checked-clause-answer
unfolding apply_checks cost_checks
returns-in_err-checked-clause-answer c =
    let p = err_from_is_err_and c.from_residual.result c.from_residual.ensures.1 in
    let e = c.in_err-checked.ensures.answer in
    rw (p.1, p.2)
    (passes 1 _ _ _ (sym c.prices_ok.ensures ∙ c.if-not-prices_ok.false) (e ∙ failed_first _ (ask 9 _ ∷ []) (λ z. refusal_some _ (e ∙ z))))

pub returns-then-not-counts_ok-clause-answer : goal.returns-then-not-counts_ok-clause-answer
unfolding apply_checks cost_checks
returns-then-not-counts_ok-clause-answer c =
    passes 1 9 _ _ (sym c.prices_ok.ensures ∙ c.if-not-prices_ok.false)
    (fails 9 _ _ (sym c.counts_ok.ensures ∙ c.if-not-counts_ok.true) ∙ sym (apply_passed block_limit _ _ _ (sym c.in_ok-checked.ensures.answer)))

pub returns-clause-answer : goal.returns-clause-answer
unfolding apply_checks cost_checks
returns-clause-answer c =
    passes 1 0 _ _ (sym c.prices_ok.ensures ∙ c.if-not-prices_ok.false)
    (passes 9 0 _ _ (sym c.counts_ok.ensures ∙ c.if-not-counts_ok.false) none_failed
    ∙ sym (apply_passed block_limit _ _ _ (sym c.in_ok-checked.ensures.answer)))
