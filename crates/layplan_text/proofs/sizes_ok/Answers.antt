-- `layplan_text::sizes_ok`: each test is the definition's. Assumes nothing.
use Rattle.std.proofs.Common.{rules, tests}
use Rattle.model.specs.Program.{sizes_ok}
use Rattle.layplan_text.proofs.sizes_ok.Goals as goal

pub returns-then-m-le-MOST_DELIVERIES : goal.returns-then-m-le-MOST_DELIVERIES
unfolding sizes_ok
returns-then-m-le-MOST_DELIVERIES c = search (tests, rules)

pub returns-else-m-le-MOST_DELIVERIES : goal.returns-else-m-le-MOST_DELIVERIES
unfolding sizes_ok
returns-else-m-le-MOST_DELIVERIES c = search (tests, rules)
