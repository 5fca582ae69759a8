-- The first line that is missing refuses the text, and then M or Q out of range.
use Rattle.lines.proofs.Reading.{found_line, refused_on}
use Rattle.layplan_text.proofs.WeekLaws.{no_prices, no_limits, no_sizes, head_found}
use Rattle.layplan_text.proofs.check_head.Goals as goal

pub returns-in_err-line_at : goal.returns-in_err-line_at
returns-in_err-line_at c = refused_on _ _ _ _ _ _ c.from_residual.ensures.1 c.in_err-line_at.ensures (no_prices _)

pub returns-in_err-line_at-2 : goal.returns-in_err-line_at-2
returns-in_err-line_at-2 c =
    refused_on _ _ _ _ _ _ c.from_residual-in_err-line_at-2.ensures.1 c.in_err-line_at-2.ensures (no_limits _ (found_line _ _ _ _ c.in_ok-line_at.ensures))

pub returns-in_err-m : goal.returns-in_err-m
returns-in_err-m c =
    refused_on _ _ _ _ _ _ c.from_residual-in_err-m.ensures.1 c.in_err-m.ensures
    (no_sizes _ (found_line _ _ _ _ c.in_ok-line_at.ensures) (found_line _ _ _ _ c.in_ok-line_at-2.ensures))

pub returns-then-not-sizes_ok : goal.returns-then-not-sizes_ok
returns-then-not-sizes_ok c =
    head_found _ (found_line _ _ _ _ c.in_ok-line_at.ensures) (found_line _ _ _ _ c.in_ok-line_at-2.ensures) _ c.in_ok-m.ensures _ c.if-not-sizes_ok.ensures

pub returns : goal.returns
returns c =
    head_found _ (found_line _ _ _ _ c.in_ok-line_at.ensures) (found_line _ _ _ _ c.in_ok-line_at-2.ensures) _ c.in_ok-m.ensures _ c.if-not-sizes_ok.ensures
