-- `recorder::record_range` meets its contract: a range is recorded as one over all days (`range_days_lem`). Assumes nothing.
use Rattle.std.proofs.Common.{◌∙◌}
use Rattle.model.specs.Bounds.{block_limit}
use Rattle.recorder.proofs.Recording.{range_days_lem}
use Rattle.recorder.proofs.record_range.Goals as goal

pub returns : goal.returns
returns c = c.record_range_days.ensures ∙ range_days_lem block_limit _ _ _ _
