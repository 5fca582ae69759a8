-- A text that is not read gives its refusal number; one that is read, the sheet of its column.
use Rattle.std.proofs.Common.{ℕ, refl, ap, ◌∙◌}
use Rattle.model.specs.Program.{refusal_text}
use Rattle.model.proofs.Refusals.{refusal_some}
use Rattle.settlement_text.specs.Texts.{output_of}
use Rattle.settlement_text.proofs.Sheets.{program_refused, program_prints}
use Rattle.settlement_text.proofs.settlement_text.Goals as goal

pub returns-in-Err : goal.returns-in-Err
returns-in-Err c = program_refused _ _ _ c.in-Err.ensures _ (refusal_some _) (c.one_number.ensures ∙ ap (λ (n : ℕ). output_of (refusal_text n)) c.number.ensures)

pub returns : goal.returns
returns c = program_prints _ _ _ c.in-Ok.ensures refl _ _ _ _ _ c.write_sheet.ensures c.unwrap_or-count.ensures
