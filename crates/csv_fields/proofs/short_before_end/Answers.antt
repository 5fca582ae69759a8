-- Digits with a line end or the end of the text behind them are the last field.
use Rattle.csv_fields.proofs.CellLaws.{short_end}
use Rattle.csv_fields.proofs.short_before_end.Goals as goal

pub returns : goal.returns
returns c = short_end c.in_ok-short.ensures.is c.if-short-at.false (rw c.in-End.is at c.in_ok-next.ensures)
