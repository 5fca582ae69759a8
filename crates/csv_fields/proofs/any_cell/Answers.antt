-- The field's bytes spell its number, unless a quote is doubled in it; a torn field is in no record.
use Rattle.csv_fields.proofs.CellLaws.{cell_torn, cell_broken, cell_doubled}
use Rattle.csv_fields.proofs.any_cell.Goals as goal

pub returns-in_err-field : goal.returns-in_err-field
returns-in_err-field c = rw c.from_residual.ensures (cell_torn c.in_err-field.ensures.is)

pub returns-in_err-behind : goal.returns-in_err-behind
returns-in_err-behind c = rw c.from_residual-in_err-behind.ensures (cell_broken c.in_ok-field.ensures.is c.in_err-behind.ensures)

pub returns-else-field : goal.returns-else-field
returns-else-field c = cell_doubled c.in_ok-field.ensures.is c.in_ok-behind.ensures c.if-field.false
