-- The flag is whether both slices are 0 so far (`BothZero`).
use Rattle.slices.proofs.Flags.{BothZero}
use Rattle.slices.proofs.zeros.Given as goal

abbrev pub invariant-loop-i : goal.invariant-loop-i
invariant-loop-i l = BothZero l.s l.u l.good l.i
