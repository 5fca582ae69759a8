use Rattle.csv_rows.proofs.RecordLaws.{passed_none, passed_broken, passed_comma, passed_end}
use Rattle.csv_rows.proofs.any_record.Goals as goal

pub loop-step-init : goal.loop-step-init
loop-step-init c = passed_none _ _ _ c.requires

pub returns-in_err-step : goal.returns-in_err-step
returns-in_err-step c = rw c.from_residual.ensures (passed_broken c.loop-step.invariant c.in_err-step.ensures.is.is)

pub loop-step-preserved : goal.loop-step-preserved
loop-step-preserved c = let s = c.in_ok-step.ensures.is in passed_comma c.loop-step.invariant s.picks (rw c.in-Comma.is at s.is.is)

pub returns-in-End : goal.returns-in-End
returns-in-End c = let s = c.in_ok-step.ensures.is in passed_end c.loop-step.invariant s.picks (rw c.in-End.is at s.is.is)
