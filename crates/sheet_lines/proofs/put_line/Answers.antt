-- `sheet_lines::put_line`: the grower, and the totals' line behind it. Assumes nothing.
use Rattle.std.proofs.Common.{refl, arith}
use Rattle.sheet_lines.proofs.WideLines.{more_put}
use Rattle.sheet_lines.proofs.put_line.Goals as goal

pub returns : goal.returns
returns c = more_put _ _ _ _ _ _ _ (rw c.from.ensures at c.put_wide.ensures) c.put_totals.ensures refl (omega arith)
