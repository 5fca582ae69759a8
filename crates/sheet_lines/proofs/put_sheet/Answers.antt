-- `sheet_lines::put_sheet`: the growers' lines, and the last line behind them. Assumes nothing.
use Rattle.std.proofs.Common.{arith}
use Rattle.model.specs.Lent.{records_given}
use Rattle.sheet_lines.proofs.SheetText.{length_sheet, sheet_put}
use Rattle.sheet_lines.proofs.put_sheet.Goals as goal

pub returns : goal.returns
returns c =
    let l = c.put_lines-lines.ensures in
    let x = records_given c.args.r in
    (sheet_put x c.args.order.now _ _ l.0 c.requires.2 _ _ _ c.put_totals.ensures l.1 l.2, omega (arith, l.1, length_sheet x c.args.order.now))
