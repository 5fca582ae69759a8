-- `layplan_text::judged_call_at`: the five numbers stand behind one another. Assumes nothing.
use Rattle.std.proofs.Common.{◌∙◌}
use Rattle.layplan_text.proofs.CallLaws.{five_fields, these_numbers}
use Rattle.layplan_text.proofs.judged_call_at.Goals as goal

pub spelled_at-kind-requires : goal.spelled_at-kind-requires
spelled_at-kind-requires c = (five_fields _ _ c.requires.1).kind

pub spelled_at-a-requires : goal.spelled_at-a-requires
spelled_at-a-requires c = (five_fields _ _ c.requires.1).first

pub spelled_at-b-requires : goal.spelled_at-b-requires
spelled_at-b-requires c = (five_fields _ _ c.requires.1).second

pub spelled_at-c-requires : goal.spelled_at-c-requires
spelled_at-c-requires c = (five_fields _ _ c.requires.1).third

pub spelled_at-d-requires : goal.spelled_at-d-requires
spelled_at-d-requires c = (five_fields _ _ c.requires.1).fourth

pub returns : goal.returns
returns c =
    c.call_by.ensures
    ∙ these_numbers c.args.text.now c.args.at c.spelled_at-kind.ensures c.spelled_at-a.ensures c.spelled_at-b.ensures c.spelled_at-c.ensures c.spelled_at-d.ensures
