-- A good line leaves those behind it.
use Rattle.std.proofs.Common.{ap, arith}
use Rattle.lines.specs.Lines.{text_checked}
use Rattle.lines.proofs.Reading.{met, refused_on, left_stop, left_next, left_end}
use Rattle.layplan_text.proofs.CallLaws.{calls_judge}
use Rattle.layplan_text.proofs.check_calls.Goals as goal

pub returns-in_err-call_at : goal.returns-in_err-call_at
returns-in_err-call_at c =
    refused_on _ _ _ _ _ _ c.from_residual.ensures.1 c.in_err-call_at.ensures (left_stop (calls_judge _) c.loop-i.invariant c.loop-i-test.true)

pub loop-i-preserved : goal.loop-i-preserved
loop-i-preserved c = left_next (calls_judge _) c.loop-i.invariant c.loop-i-test.true (met _ _ c.in_ok-call_at.ensures).0

pub returns : goal.returns
returns c = ap text_checked (left_end (calls_judge _) c.loop-i.invariant (omega arith))
