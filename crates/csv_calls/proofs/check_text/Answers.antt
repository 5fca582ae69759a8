-- The header is judged, then every row, then their count is held against the slots.
use Rattle.std.proofs.Common.{◌≡◌, arith}
use Rattle.std.proofs.lemmas.Result.{err_from_is_err_and}
use Rattle.model.specs.declared.refusal.Refusal.TheVariants.{Row}
use Rattle.csv_calls.proofs.ImportAnswers.{text_header, text_bad, text_full, text_passed, text_good}
use Rattle.csv_calls.proofs.check_text.Goals as goal

pub returns-in_err-header-clause-refused : goal.returns-in_err-header-clause-refused
returns-in_err-header-clause-refused c =
    let p = err_from_is_err_and c.from_residual.result c.from_residual.ensures.1 in rw (p.1, p.2) (text_header _ _ _ c.in_err-header.ensures.refused)

pub returns-in_err-rows-clause-refused : goal.returns-in_err-rows-clause-refused
returns-in_err-rows-clause-refused c =
    let none = c.in_err-rows.ensures.ok_part in
    let e = rw none at c.in_err-rows.ensures.value in
    let bad : c.in_err-rows.field-0.0 ≡ Row = cc in
    let p = err_from_is_err_and c.from_residual-in_err-rows.result c.from_residual-in_err-rows.ensures.1 in
    rw (p.1, p.2, bad) (text_bad _ c.in_ok-header.ensures.refused c.in_ok-header.ensures.accepted (rw none at c.judge.ensures))

pub returns-then-slots-rows-clause-refused : goal.returns-then-slots-rows-clause-refused
returns-then-slots-rows-clause-refused c =
    text_full _ c.in_ok-header.ensures.refused c.in_ok-header.ensures.accepted (rw c.in_ok-rows.ensures.ok_part at c.judge.ensures) (omega arith)

pub returns-clause-refused : goal.returns-clause-refused
returns-clause-refused c =
    text_passed _ c.in_ok-header.ensures.refused c.in_ok-header.ensures.accepted (rw c.in_ok-rows.ensures.ok_part at c.judge.ensures) (omega arith)

pub returns-clause-accepted : goal.returns-clause-accepted
returns-clause-accepted c =
    text_good _ c.in_ok-header.ensures.refused c.in_ok-header.ensures.accepted (rw c.in_ok-rows.ensures.ok_part at c.judge.ensures) (omega arith)
