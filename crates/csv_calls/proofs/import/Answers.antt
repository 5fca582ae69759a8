-- Each return is an answer of `ImportAnswers`; rows are stored, and their days set, once the text has been checked whole.
use Rattle.std.proofs.Common.{sym, ◌∙◌, length-take-le}
use Rattle.std.proofs.lemmas.Result.{err_from_is_err_and}
use Rattle.csv_calls.proofs.ImportAnswers.{answer_slices, answer_text, days_room, storable, answer-rows}
use Rattle.csv_calls.proofs.import.Goals as goal

pub returns-then-not-slices_ok : goal.returns-then-not-slices_ok
returns-then-not-slices_ok c = answer_slices _ _ (sym c.slices_ok.ensures ∙ c.if-not-slices_ok.true)

pub returns-in_err-checked : goal.returns-in_err-checked
returns-in_err-checked c =
    let p = err_from_is_err_and c.from_residual.result c.from_residual.ensures.1 in
    rw (p.1, p.2) (answer_text _ _ (sym c.slices_ok.ensures ∙ c.if-not-slices_ok.false) _ c.in_err-checked.ensures.refused)

pub store-requires : goal.store-requires
store-requires c = storable _ _ (sym c.slices_ok.ensures ∙ c.if-not-slices_ok.false) c.in_ok-checked.ensures.accepted

pub slice_bounds-fill-end : goal.slice_bounds-fill-end
slice_bounds-fill-end c = days_room _ _ (sym c.slices_ok.ensures ∙ c.if-not-slices_ok.false) c.in_ok-checked.ensures.accepted

pub slice_bounds-fill-end-2 : goal.slice_bounds-fill-end-2
slice_bounds-fill-end-2 c = sym (length-take-le _ _ (days_room _ _ (sym c.slices_ok.ensures ∙ c.if-not-slices_ok.false) c.in_ok-checked.ensures.accepted))

pub returns : goal.returns
returns c =
    let h = c.in_ok-checked.ensures in
    answer-rows _ _ (sym c.slices_ok.ensures ∙ c.if-not-slices_ok.false) h.accepted h.refused c.store.ensures (c.fill.ensures.after (λ y e. e))
