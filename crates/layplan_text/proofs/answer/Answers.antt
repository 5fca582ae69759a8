-- `layplan_text::answer` meets its contract: the first call that is refused is the answer, and else the plan is. Assumes nothing.
use Rattle.std.proofs.Common.{refl, ap, ◌∙◌, ℕ}
use Rattle.model.specs.Program.{refusal_text}
use Rattle.model.proofs.Refusals.{refusal_some}
use Rattle.layplan_text.specs.Texts.{output_of}
use Rattle.layplan_text.proofs.WeekLaws.{head, good}
use Rattle.layplan_text.proofs.AnswerLaws.{Sizes, calls_start, calls_few, calls_good, answer_refused, answer-planned}
use Rattle.layplan_text.proofs.answer.Goals as goal

pub spelled_at-block-requires : goal.spelled_at-block-requires
spelled_at-block-requires c = (head _ (good _ c.requires).first).block

pub spelled_at-used-requires : goal.spelled_at-used-requires
spelled_at-used-requires c = (head _ (good _ c.requires).first).used

pub spelled_at-q-requires : goal.spelled_at-q-requires
spelled_at-q-requires c = (head _ (good _ c.requires).first).count

pub record_lines-requires : goal.record_lines-requires
record_lines-requires c =
    let n : Sizes c.args.text.now c.spelled_at-block.result c.spelled_at-used.result c.spelled_at-q.result
    = record { block = c.spelled_at-block.ensures; used = c.spelled_at-used.ensures; count = c.spelled_at-q.ensures } in
    (calls_start n c.requires, calls_few n c.requires, calls_good n c.requires)

pub returns-in-Err : goal.returns-in-Err
returns-in-Err c =
    let n : Sizes c.args.text.now c.spelled_at-block.result c.spelled_at-used.result c.spelled_at-q.result
    = record { block = c.spelled_at-block.ensures; used = c.spelled_at-used.ensures; count = c.spelled_at-q.ensures } in
    answer_refused _ n _ _ c.in-Err.ensures _ (refusal_some _) (c.one_number.ensures ∙ ap (λ (n : ℕ). output_of (refusal_text n)) c.number.ensures)

pub plan-requires : goal.plan-requires
plan-requires c = (good _ c.requires).first

pub returns : goal.returns
returns c =
    let n : Sizes c.args.text.now c.spelled_at-block.result c.spelled_at-used.result c.spelled_at-q.result
    = record { block = c.spelled_at-block.ensures; used = c.spelled_at-used.ensures; count = c.spelled_at-q.ensures } in
    answer-planned _ n _ _ c.in_default.ensures _ refl c.plan.ensures
