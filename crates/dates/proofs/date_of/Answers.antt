-- `dates::date_of`: the date that is found has the number. Assumes nothing.
use Rattle.dates.proofs.Answers.{date_refused, date-answer}
use Rattle.dates.proofs.date_of.Goals as goal

pub returns-then-day-gt-MOST_DAY : goal.returns-then-day-gt-MOST_DAY
returns-then-day-gt-MOST_DAY c = date_refused c.args.day c.if-day-gt-MOST_DAY.true

pub returns : goal.returns
returns c = date-answer c.args.day c.apart.result c.if-day-gt-MOST_DAY.false c.apart.ensures
