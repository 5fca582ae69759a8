-- `tally::plus`: check 10 decides whether the sum is answered.
use Rattle.std.proofs.Common.{sym, ◌∙◌}
use Rattle.model.specs.Checks.{first_failed}
use Rattle.model.specs.Tallies.{tally_checks, add_call}
use Rattle.tally.proofs.plus.Goals as goal

pub returns-then-not-all_fit : goal.returns-then-not-all_fit
unfolding add_call tally_checks first_failed
returns-then-not-all_fit c = rw (sym c.all_fit.ensures ∙ c.if-not-all_fit.true)

pub returns : goal.returns
unfolding add_call tally_checks first_failed
returns c = rw (sym c.all_fit.ensures ∙ c.if-not-all_fit.false)
