-- The k bytes passed are digits and spell v, which is below 10 to the k; so nine digits fit into 32 bits, and where all are read the
-- number is asked once.
use Rattle.csv_fields.proofs.NumberLaws.{Shorter}
use Rattle.csv_fields.proofs.short_at.Given as goal

abbrev pub invariant-loop-k : goal.invariant-loop-k
invariant-loop-k l = Shorter l.text l.at l.digits l.v l.k
