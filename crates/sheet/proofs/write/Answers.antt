-- `sheet::write`: a refused call writes nothing; otherwise the slots of the days are arranged, and the sheet is put by them. Assumes nothing.
use Rattle.std.proofs.Common.{sym, ap, ◌∙◌, length-take-le}
use Rattle.std.proofs.lemmas.Result.{err_from_is_err_and}
use Rattle.std.specs.Prelude.{Option}
use Rattle.model.specs.declared.lent.DaySpan.{DaySpan}
use Rattle.model.specs.Bounds.{block_limit}
use Rattle.model.specs.Lent.{column_given}
use Rattle.sheet.specs.Answers.{span_call}
use Rattle.sheet.proofs.SheetAnswers.{sheet_refused, all_checked, measured, order_room, work_room, order_size, work_size, order_long, in_order, text_room, sheet_done}
use Rattle.sheet.proofs.write.Goals as goal

pub returns-in_err-sized : goal.returns-in_err-sized
returns-in_err-sized c =
    let p = err_from_is_err_and c.from_residual.result c.from_residual.ensures.1 in
    rw (p.1, p.2) (sheet_refused block_limit (column_given c.args.directory.now c.args.slices) c.args.days _ _ _ _ c.in_err-sized.ensures.refused)

pub slice_bounds-arrange_during-end : goal.slice_bounds-arrange_during-end
slice_bounds-arrange_during-end c =
    let a = c.in_ok-sized.ensures.accepted in
    let w = all_checked block_limit _ _ _ _ _ a.days c.in_ok-sized.ensures.refused in
    order_room w a.slots a.count

pub slice_bounds-arrange_during-end-2 : goal.slice_bounds-arrange_during-end-2
slice_bounds-arrange_during-end-2 c =
    let a = c.in_ok-sized.ensures.accepted in
    let w = all_checked block_limit _ _ _ _ _ a.days c.in_ok-sized.ensures.refused in
    sym (length-take-le _ _ (order_room w a.slots a.count))

pub slice_bounds-arrange_during-end-3 : goal.slice_bounds-arrange_during-end-3
slice_bounds-arrange_during-end-3 c =
    let a = c.in_ok-sized.ensures.accepted in
    let w = all_checked block_limit _ _ _ _ _ a.days c.in_ok-sized.ensures.refused in
    work_room w a.slots a.count

pub slice_bounds-arrange_during-end-4 : goal.slice_bounds-arrange_during-end-4
slice_bounds-arrange_during-end-4 c =
    let a = c.in_ok-sized.ensures.accepted in
    let w = all_checked block_limit _ _ _ _ _ a.days c.in_ok-sized.ensures.refused in
    sym (length-take-le _ _ (work_room w a.slots a.count))

pub arrange_during-requires : goal.arrange_during-requires
arrange_during-requires c =
    let a = c.in_ok-sized.ensures.accepted in
    let w = all_checked block_limit _ _ _ _ _ a.days c.in_ok-sized.ensures.refused in
    (order_size w a.slots a.count, work_size w a.slots a.count)

pub slice_bounds-put_sheet-end : goal.slice_bounds-put_sheet-end
slice_bounds-put_sheet-end c =
    let a = c.in_ok-sized.ensures.accepted in
    let w = all_checked block_limit _ _ _ _ _ a.days c.in_ok-sized.ensures.refused in
    order_long w a.slots a.count c.arrange_during.ensures.0

pub slice_bounds-put_sheet-end-2 : goal.slice_bounds-put_sheet-end-2
slice_bounds-put_sheet-end-2 c =
    let a = c.in_ok-sized.ensures.accepted in
    let w = all_checked block_limit _ _ _ _ _ a.days c.in_ok-sized.ensures.refused in
    sym (length-take-le _ _ (order_long w a.slots a.count c.arrange_during.ensures.0))

pub put_sheet-bytes-requires : goal.put_sheet-bytes-requires
put_sheet-bytes-requires c =
    let a = c.in_ok-sized.ensures.accepted in
    let w = all_checked block_limit _ _ _ _ _ a.days c.in_ok-sized.ensures.refused in
    let z = c.arrange_during.ensures.0 in
    (measured w a.slots a.count, in_order w a.slots a.count z, text_room w a.slots a.count z)

pub returns : goal.returns
returns c =
    let a = c.in_ok-sized.ensures.accepted in
    let w = all_checked block_limit _ _ _ _ _ a.days c.in_ok-sized.ensures.refused in
    let col = column_given c.args.directory.now c.args.slices in
    sheet_done w a.slots a.count c.arrange_during.ensures.0 c.put_sheet-bytes.ensures.0 c.put_sheet-bytes.ensures.1 c.arrange_during.ensures.1
    ∙ ap (λ (t : Option DaySpan). span_call block_limit col t c.args.text.now c.args.order.now c.args.work.now) (sym a.days)
