-- The lines that are left, written from here on, make the whole.
use Rattle.model.specs.Lent.{records_given}
use Rattle.csv_lines.proofs.RowLaws.{RowsLeft}
use Rattle.csv_lines.proofs.put_rows.Given as goal

abbrev pub invariant-loop-i : goal.invariant-loop-i
invariant-loop-i l = RowsLeft l.initial.text l.at (records_given l.r) l.text l.i l.e
