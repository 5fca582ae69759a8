-- v is what the columns passed spell.
use Rattle.fields.specs.Reading.{value_at}
use Rattle.fields.proofs.Spelling.{Spelling}
use Rattle.fields.proofs.spelled_at.Given as goal

abbrev pub invariant-loop-b : goal.invariant-loop-b
invariant-loop-b l = Spelling l.text l.at (value_at l.at l.text) l.v l.b-index
