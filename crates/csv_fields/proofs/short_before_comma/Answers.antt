-- Digits with a comma behind them are a field that is not the last.
use Rattle.std.proofs.Common.{arith}
use Rattle.csv_fields.proofs.CellLaws.{short_comma}
use Rattle.csv_fields.proofs.short_before_comma.Goals as goal

pub returns : goal.returns
returns c = short_comma c.in_ok-short.ensures.is c.if-short-at.false (omega arith)
