-- What is missing first refuses the text, and then what is left over.
use Rattle.std.proofs.Common.{true, false, arith}
use Rattle.model.proofs.Tests.{of_true}
use Rattle.lines.proofs.Reading.{met, refused_on}
use Rattle.layplan_text.proofs.WeekLaws.{head, no_head, no_deliveries, no_calls, week_decided}
use Rattle.layplan_text.proofs.check_week.Goals as goal
use borrow.Author.Tests.{le-leb, lt-leb}

pub returns-in_err-check_head : goal.returns-in_err-check_head
returns-in_err-check_head c = refused_on _ _ _ _ _ _ c.from_residual.ensures.1 c.in_err-check_head.ensures (no_head _)

pub spelled_at-m-requires : goal.spelled_at-m-requires
spelled_at-m-requires c = (head _ (of_true _ (met _ _ c.in_ok-check_head.ensures).0)).used

pub spelled_at-q-requires : goal.spelled_at-q-requires
spelled_at-q-requires c = (head _ (of_true _ (met _ _ c.in_ok-check_head.ensures).0)).count

pub check_lines-requires : goal.check_lines-requires
check_lines-requires c =
    let h = head _ (of_true _ (met _ _ c.in_ok-check_head.ensures).0) in
    (omega arith, omega arith, omega (arith, h.few, c.spelled_at-m.ensures))

pub returns-in_err-check_lines : goal.returns-in_err-check_lines
returns-in_err-check_lines c =
    refused_on _ _ _ _ _ _ c.from_residual-in_err-check_lines.ensures.1 c.in_err-check_lines.ensures
    (no_deliveries _ (met _ _ c.in_ok-check_head.ensures).0 _ _ c.spelled_at-m.ensures c.spelled_at-q.ensures)

pub check_calls-requires : goal.check_calls-requires
check_calls-requires c =
    let h = head _ (of_true _ (met _ _ c.in_ok-check_head.ensures).0) in
    (omega (arith, h.few, c.spelled_at-m.ensures), omega (arith, h.calls, c.spelled_at-q.ensures))

pub returns-in_err-check_calls : goal.returns-in_err-check_calls
returns-in_err-check_calls c =
    refused_on _ _ _ _ _ _ c.from_residual-in_err-check_calls.ensures.1 c.in_err-check_calls.ensures
    (no_calls _ (met _ _ c.in_ok-check_head.ensures).0 _ _ c.spelled_at-m.ensures c.spelled_at-q.ensures (met _ _ c.in_ok-check_lines.ensures).0)

pub returns-then-a-q : goal.returns-then-a-q
returns-then-a-q c =
    week_decided _ (met _ _ c.in_ok-check_head.ensures).0 _ _ c.spelled_at-m.ensures c.spelled_at-q.ensures
    (met _ _ c.in_ok-check_lines.ensures).0 (met _ _ c.in_ok-check_calls.ensures).0 false (lt-leb _ _ c.if-a-q.true)

pub returns : goal.returns
returns c =
    week_decided _ (met _ _ c.in_ok-check_head.ensures).0 _ _ c.spelled_at-m.ensures c.spelled_at-q.ensures
    (met _ _ c.in_ok-check_lines.ensures).0 (met _ _ c.in_ok-check_calls.ensures).0 true (le-leb _ _ c.if-a-q.false)
