-- `layplan_text::limits_of`: each number stands where the second line says. Assumes nothing.
use Rattle.layplan_text.proofs.WeekLaws.{head}
use Rattle.layplan_text.proofs.limits_of.Goals as goal

pub spelled_at-requires : goal.spelled_at-requires
spelled_at-requires c = (head _ c.requires).read

pub spelled_at-requires-2 : goal.spelled_at-requires-2
spelled_at-requires-2 c = (head _ c.requires).insert
