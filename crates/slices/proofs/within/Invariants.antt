-- The flag is whether all numbers passed so far are at most `most` (`Flagged`).
use lib.Dec.{leb}
use Rattle.std.proofs.Common.{ℕ}
use Rattle.slices.proofs.Flags.{Flagged}
use Rattle.slices.proofs.within.Given as goal

abbrev pub invariant-loop-x : goal.invariant-loop-x
invariant-loop-x l = Flagged (λ (n : ℕ). leb n l.most) l.s l.good l.x-index
