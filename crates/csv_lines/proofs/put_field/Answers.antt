-- A number, and the byte behind it.
use Rattle.fields.proofs.WritingLaws.{wrote_byte}
use Rattle.csv_lines.proofs.put_field.Goals as goal

pub returns : goal.returns
returns c = wrote_byte c.put_plain-e.ensures _ c.requires
