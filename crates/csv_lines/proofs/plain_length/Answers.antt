-- A number has a digit more for each power of ten that it reaches.
use Rattle.csv_lines.proofs.PlainLaws.{plain_length}
use Rattle.csv_lines.proofs.plain_length.Goals as goal

pub returns : goal.returns
returns c = plain_length _ _ _ _ c.reaches_three-small.ensures c.reaches_three-middle.ensures c.reaches_three-large.ensures
