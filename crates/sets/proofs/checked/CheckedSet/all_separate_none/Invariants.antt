-- `sets::CheckedSet::all_separate_none`: every end so far separates no equal growers (`Flagged`).
use Rattle.std.proofs.Common.{true}
use Rattle.model.specs.Layouts.{separates_none}
use Rattle.slices.proofs.Flags.{Flagged}
use Rattle.sets.specs.Checked.{checked_set}
use Rattle.sets.proofs.checked.CheckedSet.all_separate_none.Given as goal

abbrev pub invariant-loop-e : goal.invariant-loop-e
invariant-loop-e l = Flagged (separates_none (checked_set l.self)) l.ends true l.e-index
