-- `sheet::write_term_sheet`: it is the sheet of the days of the term, where there is one. Assumes nothing.
use Rattle.std.proofs.Common.{ap, ◌∙◌}
use Rattle.std.specs.Prelude.{Option}
use Rattle.model.specs.declared.lent.DaySpan.{DaySpan}
use Rattle.model.specs.Bounds.{block_limit}
use Rattle.model.specs.Lent.{column_given}
use Rattle.sheet.specs.Answers.{span_call}
use Rattle.sheet.proofs.SheetCalls.{term_call_lem}
use Rattle.sheet.proofs.write_term_sheet.Goals as goal

pub returns : goal.returns
returns c =
    let a = c.args in
    let col = column_given a.directory.now a.slices in
    c.write.ensures
    ∙ ap (λ (t : Option DaySpan). span_call block_limit col t a.text.now a.order.now a.work.now) c.ok.ensures.value
    ∙ term_call_lem block_limit col a.text.now a.order.now a.work.now a.day c.term_of.result c.term_of.ensures
