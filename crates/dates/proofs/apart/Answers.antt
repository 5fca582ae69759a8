-- `dates::apart`: the year of the day, the month in it, and what is left. Assumes nothing.
use Rattle.std.proofs.Common.{◌*◌, ◌/◌, arith}
use Rattle.dates.proofs.Answers.{year_found, in_year, parted}
use Rattle.dates.proofs.apart.Goals as goal

pub overflow_sub-n : goal.overflow_sub-n
overflow_sub-n c = omega (arith, (year_found c.args.day c.requires).begun)

pub month_at-month-requires : goal.month_at-month-requires
month_at-month-requires c =
    in_year c.args.day (4 * c.args.day / 1461) c.before_year.result c.leap-leap.result (year_found c.args.day c.requires) c.leap-leap.ensures c.before_year.ensures.value

pub returns : goal.returns
returns c =
    parted c.args.day (4 * c.args.day / 1461) c.before_year.result c.month_at-month.result c.before_month.result c.leap-leap.result
    (year_found c.args.day c.requires) c.leap-leap.ensures c.before_year.ensures.value c.month_at-month.ensures c.before_month.ensures.value
