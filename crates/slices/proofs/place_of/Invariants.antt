-- So many of the keys passed so far are less than g (`Counted`).
use Rattle.slices.proofs.Places.{Counted}
use Rattle.slices.proofs.place_of.Given as goal

abbrev pub invariant-loop-i : goal.invariant-loop-i
invariant-loop-i l = Counted l.keys l.g l.t l.i
