-- Each test is the check that it is named for.
use Rattle.std.proofs.Common.{sym, ◌∙◌, arith}
use Rattle.std.proofs.lemmas.Result.{err_from_is_err_and}
use Rattle.csv_calls.proofs.ExportAnswers.{check_slices, check_used, check_values, check_days, check_room, check_passed}
use Rattle.csv_calls.proofs.check_export.Goals as goal

pub returns-in_err-all-clause-refused : goal.returns-in_err-all-clause-refused
returns-in_err-all-clause-refused c =
    let p = err_from_is_err_and c.from_residual.result c.from_residual.ensures.1 in
    let r = c.in_err-all.ensures.refused in rw (p.1, p.2, r.0) (check_slices _ _ _ r.1)

pub returns-then-len-m-clause-refused : goal.returns-then-len-m-clause-refused
returns-then-len-m-clause-refused c = let a = c.in_ok-all.ensures.accepted in check_used _ _ _ a.0 a.1 (omega arith)

pub returns-then-not-values_ok-clause-refused : goal.returns-then-not-values_ok-clause-refused
returns-then-not-values_ok-clause-refused c =
    let a = c.in_ok-all.ensures.accepted in
    check_values _ _ _ a.0 a.1 (omega arith) c.part-records.ensures c.part-records.result.even (sym c.values_ok.ensures ∙ c.if-not-values_ok.true)

pub returns-then-not-days_ok-clause-refused : goal.returns-then-not-days_ok-clause-refused
returns-then-not-days_ok-clause-refused c =
    let a = c.in_ok-all.ensures.accepted in
    check_days _ _ _ a.0 a.1 (omega arith) c.part-records.ensures c.part-records.result.even (sym c.values_ok.ensures ∙ c.if-not-values_ok.false)
    (sym c.days_ok.ensures ∙ c.if-not-days_ok.true)

pub returns-then-room-text_length-clause-refused : goal.returns-then-room-text_length-clause-refused
returns-then-room-text_length-clause-refused c =
    let a = c.in_ok-all.ensures.accepted in
    check_room _ _ _ a.0 a.1 (omega arith) c.part-records.ensures c.part-records.result.even (sym c.values_ok.ensures ∙ c.if-not-values_ok.false)
    (sym c.days_ok.ensures ∙ c.if-not-days_ok.false) c.text_length.ensures (omega arith)

pub returns-clause-refused : goal.returns-clause-refused
returns-clause-refused c =
    let a = c.in_ok-all.ensures.accepted in
    check_passed _ _ _ a.0 a.1 (omega arith) c.part-records.ensures c.part-records.result.even (sym c.values_ok.ensures ∙ c.if-not-values_ok.false)
    (sym c.days_ok.ensures ∙ c.if-not-days_ok.false) c.text_length.ensures (omega arith)
