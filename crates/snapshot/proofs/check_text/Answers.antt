-- Each return is an answer of `ReadAnswers`, over what line 1 was found to be.
use Rattle.std.proofs.Common.{◌∙◌, arith}
use Rattle.model.specs.Bounds.{block_limit}
use Rattle.lines.proofs.Reading.{passed_on}
use Rattle.snapshot.proofs.ReadAnswers.{few, answer_no_head, answer_few, answer_size, answer-lines, numbers_listed, answer_numbers, answer_yes}
use Rattle.snapshot.proofs.check_text.Goals as goal

pub returns-in_err-head : goal.returns-in_err-head
returns-in_err-head c = passed_on _ _ c.from_residual.ensures.1 ∙ answer_no_head block_limit _ _ _ c.in_err-head.ensures

pub returns-then-slots-used : goal.returns-then-slots-used
returns-then-slots-used c = answer_few block_limit _ _ _ c.in_ok-head.ensures c.if-slots-used.true

pub returns-then-text-start : goal.returns-then-text-start
returns-then-text-start c = answer_size block_limit _ _ _ c.in_ok-head.ensures c.if-slots-used.false (λ z. omega (arith, z))

pub list_parts-requires : goal.list_parts-requires
list_parts-requires c = few block_limit _ _ c.in_ok-head.ensures

pub returns-in_err-directory : goal.returns-in_err-directory
returns-in_err-directory c =
    passed_on _ _ c.from_residual-in_err-directory.ensures.1
    ∙ answer-lines block_limit _ _ _ c.in_ok-head.ensures c.if-slots-used.false _ c.in_err-directory.ensures

pub check_numbers-requires : goal.check_numbers-requires
check_numbers-requires c = (numbers_listed block_limit _ _ c.in_ok-head.ensures _ c.in_ok-directory.ensures, omega arith)

pub returns-in_err-check_numbers : goal.returns-in_err-check_numbers
returns-in_err-check_numbers c =
    passed_on _ _ c.from_residual-in_err-check_numbers.ensures.1
    ∙ answer_numbers block_limit _ _ _ c.in_ok-head.ensures c.if-slots-used.false _ c.in_ok-directory.ensures (omega arith) _ c.in_err-check_numbers.ensures

pub returns : goal.returns
returns c = answer_yes block_limit _ _ _ c.in_ok-head.ensures c.if-slots-used.false _ c.in_ok-directory.ensures (omega arith) c.in_ok-check_numbers.ensures
