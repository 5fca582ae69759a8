-- The record is of short numbers, or read field by field.
use Rattle.csv_rows.proofs.row_at.Goals as goal

pub returns-in-Some : goal.returns-in-Some
returns-in-Some c = c.row_of.ensures.is _ _ c.in-Some.ensures.is.is

pub returns : goal.returns
returns c = c.row_of-2.ensures.is _ _ c.in_ok-record.ensures.is
