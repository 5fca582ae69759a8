-- The field is found as `field_at` finds it, and whatever its bytes are, they spell some number or none.
use Rattle.csv_fields.proofs.CellLaws.{skipped, skipped_torn}
use Rattle.csv_fields.proofs.skip_field.Goals as goal

pub returns-in_err-field : goal.returns-in_err-field
returns-in_err-field c = rw c.from_residual.ensures (skipped_torn c.in_err-field.ensures)

pub returns : goal.returns
returns c = skipped c.in_ok-field.ensures.is _ c.behind_at.ensures
