-- A find is a range from g to g (`find_is_range`).
use Rattle.std.proofs.Common.{◌∙◌}
use Rattle.model.specs.Bounds.{block_limit}
use Rattle.column.proofs.Answering.{find_is_range}
use Rattle.column.proofs.find.Goals as goal

pub returns : goal.returns
returns c = c.range.ensures ∙ find_is_range block_limit _ c.args.grower
