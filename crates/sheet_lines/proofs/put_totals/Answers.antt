-- `sheet_lines::put_totals`: three numbers, one behind the other, and then LF are the line. Assumes nothing.
use Rattle.sheet_lines.proofs.WideLines.{totals_put}
use Rattle.sheet_lines.proofs.put_totals.Goals as goal

pub returns : goal.returns
returns c = totals_put _ c.args.t _ _ _ _ c.put_wide.ensures c.put_wide-2.ensures c.put_wide-3.ensures c.requires
