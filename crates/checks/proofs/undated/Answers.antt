-- A number is 0 just if it is at most 0.
use Rattle.std.proofs.Common.{◌∙◌}
use Rattle.checks.proofs.Answers.{at_most_zero}
use Rattle.checks.proofs.undated.Goals as goal

pub returns : goal.returns
returns c = c.within.ensures ∙ at_most_zero _
