-- The field is the bytes passed and the field from here.
use Rattle.csv_fields.proofs.CursorLaws.{Plain}
use Rattle.csv_fields.proofs.plain_end.Given as goal

abbrev pub invariant-loop-i : goal.invariant-loop-i
invariant-loop-i l = Plain l.text l.at l.i
