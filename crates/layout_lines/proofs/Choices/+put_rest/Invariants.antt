-- The blocks that are left fall.
use Rattle.std.proofs.Common.{◌-◌}
use Rattle.layout_lines.proofs.Choices.+put_rest.Given as goal

abbrev pub decreases-put_rest : goal.decreases-put_rest
decreases-put_rest l = l.self.now.rules.blocks - l.i
