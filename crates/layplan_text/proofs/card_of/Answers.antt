-- `layplan_text::card_of`: each number stands where the first line says. Assumes nothing.
use Rattle.layplan_text.proofs.WeekLaws.{head}
use Rattle.layplan_text.proofs.card_of.Goals as goal

pub spelled_at-requires : goal.spelled_at-requires
spelled_at-requires c = (head _ c.requires).random

pub spelled_at-requires-2 : goal.spelled_at-requires-2
spelled_at-requires-2 c = (head _ c.requires).sequential

pub spelled_at-requires-3 : goal.spelled_at-requires-3
spelled_at-requires-3 c = (head _ c.requires).written
