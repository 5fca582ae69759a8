-- All records pass check 19, so that none is left out for its day.
use Rattle.std.proofs.Common.{◌∙◌}
use Rattle.scan.proofs.Fitting.{over_every_day}
use Rattle.scan.proofs.EveryDayDays.total.Goals as goal

pub returns : goal.returns
returns c = c.total_stride.ensures ∙ over_every_day _ _ _ c.requires.1
