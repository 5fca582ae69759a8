-- `histograms::raise_each`: raising the slots from `i` on gives what raising all would have given, and each of them has room (`Rest`).
use Rattle.histograms.proofs.Slots.{Rest}
use Rattle.histograms.proofs.raise_each.Given as goal

abbrev pub invariant-loop-i : goal.invariant-loop-i
invariant-loop-i l = Rest l.initial.h l.h l.f l.t l.i
