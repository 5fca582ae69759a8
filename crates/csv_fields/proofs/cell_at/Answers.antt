-- Digits that end where a field may end are the field.
use Rattle.std.proofs.Common.{arith}
use Rattle.csv_fields.proofs.CellLaws.{cell_digits}
use Rattle.csv_fields.proofs.cell_at.Goals as goal

pub returns-in-Some-behind_at : goal.returns-in-Some-behind_at
returns-in-Some-behind_at c = cell_digits c.in-Some.ensures.is.passed (λ z. omega arith) _ c.in-Some-behind_at.ensures
