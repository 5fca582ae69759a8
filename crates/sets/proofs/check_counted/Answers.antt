-- `sets::check_counted` meets its contract: `check_set` decides checks 2 to 5 of the list; past them 7, 8 and 19 (of the set, then of what is offered)
-- and 9 are left to answer, each once those before it were passed. Assumes nothing.
use Rattle.std.proofs.Common.{Bool, sym, ap, ◌∙◌, ◌&&◌}
use Rattle.std.proofs.lemmas.Result.{err_from_is_err_and}
use Rattle.model.specs.Bounds.{block_limit}
use Rattle.model.specs.Blocks.{Set, values_ok, days_ok}
use Rattle.checks.proofs.Answers.{fails, passes, none_failed, and_no, and_yes}
use Rattle.sets.proofs.Sets.{set_failed, set_passed}
use Rattle.sets.proofs.check_counted.Goals as goal

pub returns-in_err-checked-clause-answer : goal.returns-in_err-checked-clause-answer
returns-in_err-checked-clause-answer c =
    let p = err_from_is_err_and c.from_residual.result c.from_residual.ensures.1 in
    rw (p.1, p.2) (set_failed block_limit _ _ _ c.in_err-checked.ensures.answer)

pub returns-then-not-ordered-clause-answer : goal.returns-then-not-ordered-clause-answer
returns-then-not-ordered-clause-answer c = set_passed block_limit _ 7 _ c.in_ok-checked.ensures.answer (fails 7 _ _ c.if-not-ordered.true)

pub returns-then-not-values_ok-clause-answer : goal.returns-then-not-values_ok-clause-answer
returns-then-not-values_ok-clause-answer c =
    let s = c.in_ok-checked.ensures in
    let eight = sym (c.values_ok.ensures ∙ ap values_ok s.accepted) in
    set_passed block_limit _ 8 _ s.answer (passes 7 8 _ _ c.if-not-ordered.false (fails 8 _ _ (sym (and_no _ _ (eight ∙ c.if-not-values_ok.true)))))

pub returns-then-not-offered-clause-answer : goal.returns-then-not-offered-clause-answer
returns-then-not-offered-clause-answer c =
    let s = c.in_ok-checked.ensures in
    let eight = sym (and_yes _ c.args.offered (sym (c.values_ok.ensures ∙ ap values_ok s.accepted) ∙ c.if-not-values_ok.false)) in
    set_passed block_limit _ 8 _ s.answer (passes 7 8 _ _ c.if-not-ordered.false (fails 8 _ _ (eight ∙ c.if-not-offered.true)))

pub returns-then-not-days_ok-clause-answer : goal.returns-then-not-days_ok-clause-answer
returns-then-not-days_ok-clause-answer c =
    let s = c.in_ok-checked.ensures in
    let eight = sym (and_yes _ c.args.offered (sym (c.values_ok.ensures ∙ ap values_ok s.accepted) ∙ c.if-not-values_ok.false)) in
    let nineteen = sym (c.days_ok.ensures ∙ ap days_ok s.accepted) in
    set_passed block_limit _ 19 _ s.answer
    (passes 7 19 _ _ c.if-not-ordered.false
    (passes 8 19 _ _ (eight ∙ c.if-not-offered.false) (fails 19 _ _ (sym (and_no _ _ (nineteen ∙ c.if-not-days_ok.true))))))

pub returns-then-not-days_offered-clause-answer : goal.returns-then-not-days_offered-clause-answer
returns-then-not-days_offered-clause-answer c =
    let s = c.in_ok-checked.ensures in
    let eight = sym (and_yes _ c.args.offered (sym (c.values_ok.ensures ∙ ap values_ok s.accepted) ∙ c.if-not-values_ok.false)) in
    let nineteen = sym (and_yes _ c.args.days_offered (sym (c.days_ok.ensures ∙ ap days_ok s.accepted) ∙ c.if-not-days_ok.false)) in
    set_passed block_limit _ 19 _ s.answer
    (passes 7 19 _ _ c.if-not-ordered.false
    (passes 8 19 _ _ (eight ∙ c.if-not-offered.false) (fails 19 _ _ (nineteen ∙ c.if-not-days_offered.true))))

pub returns-then-not-counts_ok-clause-answer : goal.returns-then-not-counts_ok-clause-answer
returns-then-not-counts_ok-clause-answer c =
    let s = c.in_ok-checked.ensures in
    let eight = sym (and_yes _ c.args.offered (sym (c.values_ok.ensures ∙ ap values_ok s.accepted) ∙ c.if-not-values_ok.false)) in
    let nineteen = sym (and_yes _ c.args.days_offered (sym (c.days_ok.ensures ∙ ap days_ok s.accepted) ∙ c.if-not-days_ok.false)) in
    set_passed block_limit _ 9 _ s.answer
    (passes 7 9 _ _ c.if-not-ordered.false
    (passes 8 9 _ _ (eight ∙ c.if-not-offered.false)
    (passes 19 9 _ _ (nineteen ∙ c.if-not-days_offered.false) (fails 9 _ _ (sym c.counts_ok.ensures ∙ c.if-not-counts_ok.true)))))

pub returns-clause-answer : goal.returns-clause-answer
returns-clause-answer c =
    let s = c.in_ok-checked.ensures in
    let eight = sym (and_yes _ c.args.offered (sym (c.values_ok.ensures ∙ ap values_ok s.accepted) ∙ c.if-not-values_ok.false)) in
    let nineteen = sym (and_yes _ c.args.days_offered (sym (c.days_ok.ensures ∙ ap days_ok s.accepted) ∙ c.if-not-days_ok.false)) in
    set_passed block_limit _ 0 _ s.answer
    (passes 7 0 _ _ c.if-not-ordered.false
    (passes 8 0 _ _ (eight ∙ c.if-not-offered.false)
    (passes 19 0 _ _ (nineteen ∙ c.if-not-days_offered.false) (passes 9 0 _ _ (sym c.counts_ok.ensures ∙ c.if-not-counts_ok.false) none_failed))))
