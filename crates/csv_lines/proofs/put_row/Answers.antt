-- Three fields, one behind the other, and then the line end are the line.
use Rattle.model.specs.Deliveries.{delivery}
use Rattle.csv_lines.proofs.RowLaws.{row_done}
use Rattle.csv_lines.proofs.put_row.Goals as goal

pub returns : goal.returns
returns c =
    row_done (delivery c.args.g c.args.w c.args.y 0) c.requires c.put_field-a.ensures c.put_field-b.ensures c.put_plain-c.ensures c.put_line_end.ensures
