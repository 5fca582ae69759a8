-- `dates::day_of`: what is asked is what a date of 2000 to 2099 is, and the day is counted as its number is. Assumes nothing.
use Rattle.std.proofs.Common.{arith, rules}
use Rattle.std.proofs.lemmas.Grind.{common_steps}
use Rattle.dates.proofs.Answers.{day_refused, too_late, day_answer}
use Rattle.dates.proofs.day_of.Goals as goal
use Rattle.dates.proofs.day_of.Goals.{then-not-contains-via-then-not-contains, then-not-contains-via-else-not-contains+then-not-contains-2}
use Rattle.dates.proofs.day_of.Goals.{then-not-contains-via-else-not-contains+else-not-contains-2+then-day-lt1}

pub returns-then-not-contains : goal.returns-then-not-contains
returns-then-not-contains c =
    day_refused c.args.year c.args.month c.args.day (λ r.
    elim c.then-not-contains.branch [
      | then-not-contains-via-then-not-contains w ↦ grind (arith, common_steps)
      | then-not-contains-via-else-not-contains+then-not-contains-2 w ↦ grind (arith, common_steps)
      | then-not-contains-via-else-not-contains+else-not-contains-2+then-day-lt1 w ↦ omega arith
    ])

pub returns-then-month_days-day : goal.returns-then-month_days-day
returns-then-month_days-day c =
    day_refused c.args.year c.args.month c.args.day
    (too_late c.args.year c.args.month c.args.day c.month_days.result c.leap-leap.result c.leap-leap.ensures c.month_days.ensures.value c.if-month_days-day.true)

pub returns : goal.returns
returns c =
    let l = c.leap-leap in
    let e = c.month_days in
    day_answer c.args.year c.args.month c.args.day e.result c.before_year.result c.before_month.result l.result
    (search rules) (grind (arith, common_steps))
    (search rules) (search rules) c.if-day-lt1.false
    l.ensures e.ensures.value c.if-month_days-day.false c.before_year.ensures.value c.before_month.ensures.value
