-- A good line leaves those behind it.
use Rattle.std.proofs.Common.{ap, arith}
use Rattle.lines.specs.Lines.{text_checked}
use Rattle.lines.proofs.Reading.{refused_on, found_line, lines_judge, left_start, left_stop, left_next, left_end}
use Rattle.lines.proofs.check_lines.Goals as goal

pub loop-i-init : goal.loop-i-init
loop-i-init g c = (left_start _ _ _ _, omega arith)

pub returns-in_err-line_at : goal.returns-in_err-line_at
returns-in_err-line_at g c =
    refused_on _ _ _ _ _ _ c.from_residual.ensures.1 c.in_err-line_at.ensures (left_stop (lines_judge _ _) c.loop-i.invariant.0 c.loop-i-test.true)

pub loop-i-preserved : goal.loop-i-preserved
loop-i-preserved g c =
    let v = c.loop-i.invariant in
    (left_next (lines_judge _ _) v.0 c.loop-i-test.true (found_line _ _ _ _ c.in_ok-line_at.ensures), omega (arith, c.requires.1))

pub returns : goal.returns
returns g c = ap text_checked (left_end (lines_judge _ _) c.loop-i.invariant.0 (omega arith))
