-- The blocks that are left fall.
use Rattle.std.proofs.Common.{◌-◌}
use Rattle.layout_lines.proofs.Choices.+size_from.Given as goal

abbrev pub decreases-size_from : goal.decreases-size_from
decreases-size_from l = l.self.now.rules.blocks - l.i
