-- CR, and LF behind it.
use Rattle.std.proofs.Common.{arith}
use Rattle.model.specs.Fields.{line_end}
use Rattle.model.specs.Csv.{carriage_return}
use Rattle.fields.proofs.WritingLaws.{wrote_one, wrote_byte}
use Rattle.csv_lines.proofs.put_line_end.Goals as goal

pub returns : goal.returns
returns c = wrote_byte (wrote_one c.args.text.now c.args.at carriage_return (omega (arith, c.requires))) line_end c.requires
