-- `directory::lent_growers`: the first check that fails answers.
use Rattle.std.proofs.Common.{sym, ◌∙◌}
use Rattle.model.specs.Questions.{partition_checks}
use Rattle.checks.proofs.Answers.{fails, passes}
use Rattle.directory.proofs.lent_growers.Goals as goal

pub returns-then-not-directory_block_ok-clause-refused : goal.returns-then-not-directory_block_ok-clause-refused
unfolding partition_checks
returns-then-not-directory_block_ok-clause-refused c = fails 2 _ _ (sym c.directory_block_ok.ensures ∙ c.if-not-directory_block_ok.true)

pub returns-then-not-slots_ok-clause-refused : goal.returns-then-not-slots_ok-clause-refused
unfolding partition_checks
returns-then-not-slots_ok-clause-refused c =
    passes 2 3 _ _ (sym c.directory_block_ok.ensures ∙ c.if-not-directory_block_ok.false) (fails 3 _ _ (sym c.slots_ok.ensures ∙ c.if-not-slots_ok.true))

pub returns-clause-refused : goal.returns-clause-refused
unfolding partition_checks
returns-clause-refused c =
    passes 2 _ _ _ (sym c.directory_block_ok.ensures ∙ c.if-not-directory_block_ok.false)
    (passes 3 _ _ _ (sym c.slots_ok.ensures ∙ c.if-not-slots_ok.false) c.judged.ensures.refused)
