-- `permitted::check_plan` meets its contract: past check 1 the others are those of `check_counted`, which here asks nothing of an order or an offer.
-- Assumes nothing.
use Rattle.std.proofs.Common.{sym, ◌∙◌}
use Rattle.checks.proofs.Answers.{fails, passes}
use Rattle.permitted.proofs.Given.{counted_given}
use Rattle.permitted.proofs.check_plan.Goals as goal

pub returns-then-not-given_ok-clause-answer : goal.returns-then-not-given_ok-clause-answer
returns-then-not-given_ok-clause-answer c = fails 1 _ _ (sym c.given_ok.ensures ∙ c.if-not-given_ok.true)

pub returns-clause-answer : goal.returns-clause-answer
returns-clause-answer c = passes 1 _ _ _ (sym c.given_ok.ensures ∙ c.if-not-given_ok.false) (c.check_counted.ensures.answer ∙ counted_given _ _ _)
