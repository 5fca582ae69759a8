-- `layplan_text::record_lines` meets its contract: a call that is accepted leaves those behind it, and one that is refused ends them. Assumes nothing.
use Rattle.std.proofs.Common.{rules, arith, ap, ◌∙◌}
use Rattle.std.proofs.lemmas.Result.{err_from_is_err_and}
use Rattle.model.specs.Bounds.{block_limit}
use Rattle.model.specs.Recorder.{record_call}
use Rattle.model.specs.Lent.{set_given}
use Rattle.model.proofs.Refusals.{refusal_some}
use Rattle.layplan_text.proofs.CallLaws.{records_start, next_line, records_stop, records_next, records_end}
use Rattle.layplan_text.proofs.record_lines.Goals as goal

pub loop-i-init : goal.loop-i-init
loop-i-init c = records_start _ _ _ _ _ c.requires.2

pub judged_call_at-call-requires : goal.judged_call_at-call-requires
judged_call_at-call-requires c = (omega (arith, c.loop-i.invariant.at-line, c.requires.0, c.requires.1), next_line c.loop-i-test.true c.loop-i.invariant)

pub returns-in_err-record_one : goal.returns-in_err-record_one
returns-in_err-record_one c =
    let p = err_from_is_err_and c.from_residual.result c.from_residual.ensures.1 in
    rw (p.1, p.2)
    (records_stop c.loop-i-test.true c.loop-i.invariant _ _
    (c.in_err-record_one.ensures ∙ ap (record_call block_limit (set_given c.args.set) c.loop-i.histograms) c.judged_call_at-call.ensures) (refusal_some _))

pub overflow_add-e : goal.overflow_add-e
overflow_add-e c = omega (arith, c.loop-i.invariant.at-line, c.requires.0, c.requires.1)

pub loop-i-preserved : goal.loop-i-preserved
loop-i-preserved c =
    records_next c.loop-i-test.true c.loop-i.invariant 0 c.record_one.new.h
    (c.in_ok-record_one.ensures ∙ ap (record_call block_limit (set_given c.args.set) c.loop-i.histograms) c.judged_call_at-call.ensures) (omega arith) (search rules)

pub returns : goal.returns
returns c = records_end c.loop-i-test.false c.loop-i.invariant
