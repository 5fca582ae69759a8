-- `permitted::mark`: the flags before `i` say where an end may stand, and the slice is as long as it was (`Marked`).
use Rattle.std.proofs.Common.{[]}
use Rattle.model.specs.Lent.{set_of}
use Rattle.permitted.specs.Given.{Marked}
use Rattle.permitted.proofs.mark.Given as goal

abbrev pub invariant-loop-i : goal.invariant-loop-i
invariant-loop-i l = Marked (set_of l.block l.used l.growers [] [] []) l.i l.initial.fits l.fits
