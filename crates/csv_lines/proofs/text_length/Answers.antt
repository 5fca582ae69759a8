-- The header line, four bytes a line that are no digits, and the digits.
use Rattle.csv_lines.proofs.RowLaws.{text_length}
use Rattle.csv_lines.proofs.text_length.Goals as goal

pub returns : goal.returns
returns c = rw c.len.ensures (text_length c.args.r.even c.digits_total.ensures c.digits_total-2.ensures c.digits_total-3.ensures)
