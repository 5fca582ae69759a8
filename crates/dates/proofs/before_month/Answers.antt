-- `dates::before_month`: each way counts as computed at every month. Assumes nothing.
use Rattle.std.proofs.Common.{arith}
use Rattle.dates.proofs.Months.{counted_first, counted_later, month_small}
use Rattle.dates.proofs.before_month.Goals as goal

pub returns-then-m-le2-clause-value : goal.returns-then-m-le2-clause-value
returns-then-m-le2-clause-value c = counted_first c.args.leap c.args.m c.requires.0 c.if-m-le2.true

pub returns-else-m-le2-clause-value : goal.returns-else-m-le2-clause-value
returns-else-m-le2-clause-value c = rw c.lacking.ensures.value (counted_later c.args.leap c.args.m c.if-m-le2.false c.requires.1)

pub returns-else-m-le2-clause-small : goal.returns-else-m-le2-clause-small
returns-else-m-le2-clause-small c =
    omega (arith, counted_later c.args.leap c.args.m c.if-m-le2.false c.requires.1, month_small c.args.leap c.args.m c.requires.0 c.requires.1)
