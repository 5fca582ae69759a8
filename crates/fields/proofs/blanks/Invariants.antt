-- The columns passed are blank.
use Rattle.fields.proofs.Columns.{Passed}
use Rattle.fields.proofs.blanks.Given as goal

abbrev pub invariant-loop-i : goal.invariant-loop-i
invariant-loop-i l = Passed l.text l.at l.i
