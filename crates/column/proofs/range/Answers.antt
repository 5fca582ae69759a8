-- A range is the one over all days (`all_days`).
use Rattle.std.proofs.Common.{◌∙◌, ap}
use Rattle.model.specs.Bounds.{block_limit}
use Rattle.model.specs.ColumnCalls.{Called}
use Rattle.model.proofs.Laws.{days_of_a_range}
use Rattle.column.proofs.range.Goals as goal

pub returns : goal.returns
returns c = c.range_days.ensures ∙ ap (λ (r : Called). r.answer) (days_of_a_range.all_days block_limit _ c.args.lo c.args.hi)
