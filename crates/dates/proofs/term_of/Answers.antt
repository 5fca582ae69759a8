-- `dates::term_of`: the first or the second term of the day's month. Assumes nothing.
use Rattle.dates.proofs.Answers.{term_refused, term_early, term_late}
use Rattle.dates.proofs.term_of.Goals as goal
use Rattle.dates.proofs.term_of.Goals.{then-d-le-FIRST_TERM_END, else-d-le-FIRST_TERM_END}

pub returns-then-day-gt-MOST_DAY : goal.returns-then-day-gt-MOST_DAY
returns-then-day-gt-MOST_DAY c = term_refused c.args.day c.if-day-gt-MOST_DAY.true

pub returns : goal.returns
returns c =
    elim c.if-d-le-FIRST_TERM_END.branch [
      | then-d-le-FIRST_TERM_END w ↦ rw w.first-is (term_early c.args.day c.apart-p.result c.if-day-gt-MOST_DAY.false c.apart-p.ensures w.if-d-le-FIRST_TERM_END.true)
      | else-d-le-FIRST_TERM_END w ↦ rw w.first-is (term_late c.args.day c.apart-p.result w.month_days.result
          c.if-day-gt-MOST_DAY.false c.apart-p.ensures w.if-d-le-FIRST_TERM_END.false w.month_days.ensures.value)
    ]
