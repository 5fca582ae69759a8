-- `sets::check_layout` meets its contract: `check_set` decides checks 2 to 5 of the list; past them 6 and then 8 and 19 are left to answer. Assumes nothing.
use Rattle.std.proofs.Common.{sym, ap, ◌∙◌}
use Rattle.std.proofs.lemmas.Result.{err_from_is_err_and}
use Rattle.model.specs.Bounds.{block_limit}
use Rattle.model.specs.Blocks.{Set, values_ok, days_ok}
use Rattle.model.specs.Layouts.{layout_ok}
use Rattle.model.specs.Questions.{apply_checks}
use Rattle.checks.proofs.Answers.{fails, passes, none_failed}
use Rattle.sets.proofs.Sets.{set_failed, set_passed}
use Rattle.sets.proofs.check_layout.Goals as goal

pub returns-in_err-checked-clause-answer : goal.returns-in_err-checked-clause-answer
unfolding apply_checks
returns-in_err-checked-clause-answer c =
    let p = err_from_is_err_and c.from_residual.result c.from_residual.ensures.1 in
    rw (p.1, p.2) (set_failed block_limit _ _ _ c.in_err-checked.ensures.answer)

pub returns-then-not-layout_ok-clause-answer : goal.returns-then-not-layout_ok-clause-answer
unfolding apply_checks
returns-then-not-layout_ok-clause-answer c =
    let s = c.in_ok-checked.ensures in
    let six = sym (c.layout_ok.ensures ∙ ap (λ (t : Set). layout_ok t c.args.ends.now) s.accepted) in
    set_passed block_limit _ 6 _ s.answer (fails 6 _ _ (six ∙ c.if-not-layout_ok.true))

pub returns-then-not-values_ok-clause-answer : goal.returns-then-not-values_ok-clause-answer
unfolding apply_checks
returns-then-not-values_ok-clause-answer c =
    let s = c.in_ok-checked.ensures in
    let six = sym (c.layout_ok.ensures ∙ ap (λ (t : Set). layout_ok t c.args.ends.now) s.accepted) in
    let eight = sym (c.values_ok.ensures ∙ ap values_ok s.accepted) in
    set_passed block_limit _ 8 _ s.answer (passes 6 8 _ _ (six ∙ c.if-not-layout_ok.false) (fails 8 _ _ (eight ∙ c.if-not-values_ok.true)))

pub returns-then-not-days_ok-clause-answer : goal.returns-then-not-days_ok-clause-answer
unfolding apply_checks
returns-then-not-days_ok-clause-answer c =
    let s = c.in_ok-checked.ensures in
    let six = sym (c.layout_ok.ensures ∙ ap (λ (t : Set). layout_ok t c.args.ends.now) s.accepted) in
    let eight = sym (c.values_ok.ensures ∙ ap values_ok s.accepted) in
    let nineteen = sym (c.days_ok.ensures ∙ ap days_ok s.accepted) in
    set_passed block_limit _ 19 _ s.answer
    (passes 6 19 _ _ (six ∙ c.if-not-layout_ok.false) (passes 8 19 _ _ (eight ∙ c.if-not-values_ok.false) (fails 19 _ _ (nineteen ∙ c.if-not-days_ok.true))))

pub returns-clause-answer : goal.returns-clause-answer
unfolding apply_checks
returns-clause-answer c =
    let s = c.in_ok-checked.ensures in
    let six = sym (c.layout_ok.ensures ∙ ap (λ (t : Set). layout_ok t c.args.ends.now) s.accepted) in
    let eight = sym (c.values_ok.ensures ∙ ap values_ok s.accepted) in
    let nineteen = sym (c.days_ok.ensures ∙ ap days_ok s.accepted) in
    set_passed block_limit _ 0 _ s.answer
    (passes 6 0 _ _ (six ∙ c.if-not-layout_ok.false)
    (passes 8 0 _ _ (eight ∙ c.if-not-values_ok.false) (passes 19 0 _ _ (nineteen ∙ c.if-not-days_ok.false) none_failed)))
