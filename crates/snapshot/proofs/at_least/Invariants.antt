-- The flag says whether all numbers passed were great enough.
use Rattle.std.proofs.Common.{leb}
use Rattle.slices.proofs.Flags.{Flagged}
use Rattle.snapshot.proofs.at_least.Given as goal

abbrev pub invariant-loop-x : goal.invariant-loop-x
invariant-loop-x l = Flagged (λ n. leb l.least n) l.s l.good l.x-index
