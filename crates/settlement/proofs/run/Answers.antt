-- What is written is the whole output, and the output for what was read is that for the whole input.
use Rattle.std.proofs.Common.{rules, ◌∙◌, arith}
use Rattle.model.specs.SheetCalls.{settlement}
use Rattle.settlement_text.proofs.Sheets.{output_within, output_front}
use Rattle.settlement_text.proofs.CutShort.{cut_short}
use Rattle.std.proofs.lemmas.Result.{IfOk-at_ok, MatchResult-at_ok}
use Rattle.input.proofs.Reading.{ok_before, written_of_whole}
use Rattle.settlement.proofs.run.Goals as goal

pub as_slice-requires : goal.as_slice-requires
as_slice-requires g c = (omega arith, output_within _ _ c.settlement_text-out.ensures)

pub returns-clause-written : goal.returns-clause-written
returns-clause-written g c =
    let r = ok_before c.read_all.result _ c.in_ok-n.n c.in_ok-n.ensures in
    let w = ok_before c.write_all.result _ c.in_ok-or.field-0 c.in_ok-or.ensures in
    written_of_whole settlement 18915 _ _ _ _ c.read_all.new.input _ c.in_ok-n.n cut_short (search rules) (IfOk-at_ok _ r c.read_all.ensures.within)
    (IfOk-at_ok _ r c.read_all.ensures.bytes) (c.as_slice.ensures ∙ output_front _ _ c.settlement_text-out.ensures) (MatchResult-at_ok _ _ _ w c.write_all.ensures.bytes)
