-- `sheet::write_sheet`: the whole sheet is the one of all days. Assumes nothing.
use Rattle.std.proofs.Common.{◌∙◌}
use Rattle.model.specs.Bounds.{block_limit}
use Rattle.sheet.proofs.SheetCalls.{whole_call}
use Rattle.sheet.proofs.write_sheet.Goals as goal

pub returns : goal.returns
returns c = c.write.ensures ∙ whole_call block_limit _ _ _ _
