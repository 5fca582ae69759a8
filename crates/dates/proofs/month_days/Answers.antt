-- `dates::month_days`: the next month begins after this one's days. Assumes nothing.
use Rattle.std.proofs.Common.{arith}
use Rattle.dates.proofs.Months.{month_facts}
use Rattle.dates.proofs.month_days.Goals as goal

pub overflow_sub-result : goal.overflow_sub-result
overflow_sub-result c = omega (arith, (month_facts c.args.leap c.args.m c.requires.0 c.requires.1).next)

pub returns : goal.returns
returns c =
    let f = month_facts c.args.leap c.args.m c.requires.0 c.requires.1 in
    record { value = omega arith; small = omega arith }
