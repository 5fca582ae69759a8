-- The columns passed are the leading columns of v, all eleven its field.
use Rattle.std.proofs.Common.{◌+◌}
use Rattle.fields.proofs.Columns.{Digits}
use Rattle.fields.proofs.digits.Given as goal

abbrev pub invariant-loop-b : goal.invariant-loop-b
invariant-loop-b l = Digits l.text l.at l.v (l.first + l.b-index)
