-- `layplan_text::call_at`: a line that is not there, or a kind or an unused number, is no call. Assumes nothing.
use Rattle.layplan_text.proofs.CallLaws.{call_read, call_not_read}
use Rattle.layplan_text.proofs.call_at.Goals as goal

pub returns-in_err-line_at : goal.returns-in_err-line_at
returns-in_err-line_at c = call_not_read c.args.text.now c.args.at _ c.from_residual.ensures.1 c.in_err-line_at.ensures

pub returns : goal.returns
returns c = call_read c.args.text.now c.args.at _ _ c.in_ok-line_at.ensures c.call_of.ensures c.ok_or.ensures.value
