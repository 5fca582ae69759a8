-- `theorems::sheets_agree` meets its contract: the proofs of the theorems, handed over. Assumes nothing.
use Rattle.theorems.proofs.Sheet.{sheet_agrees, sheet_after-calls, term_sheet_agrees, term_sheet_after-calls}
use Rattle.theorems.proofs.sheets_agree.Goals as goal

pub returns : goal.returns
returns c = (sheet_agrees, sheet_after-calls, term_sheet_agrees, term_sheet_after-calls)
