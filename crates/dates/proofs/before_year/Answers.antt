-- `dates::before_year`: the days of k years, as computed at each. Assumes nothing.
use Rattle.std.proofs.Common.{arith}
use Rattle.dates.proofs.Years.{year_counted}
use Rattle.dates.proofs.before_year.Goals as goal

pub returns-clause-value : goal.returns-clause-value
returns-clause-value c = year_counted c.args.k (omega arith)
