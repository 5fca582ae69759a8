-- `sets::CheckedSet::all_separate_none` meets its contract, by its invariant. Assumes nothing.
use Rattle.std.proofs.Common.{sym, ◌∙◌}
use Rattle.slices.proofs.Flags.{flag_start, flag_good, flag_bad, flag_end}
use Rattle.sets.proofs.checked.CheckedSet.all_separate_none.Goals as goal

pub loop-e-init : goal.loop-e-init
loop-e-init c = flag_start _ _

pub returns-then-not-separates_none : goal.returns-then-not-separates_none
returns-then-not-separates_none c =
    (flag_bad _ _ _ _ c.loop-e-test.true c.loop-e.invariant (sym c.separates_none.ensures ∙ c.if-not-separates_none.true)).so_far

pub loop-e-preserved : goal.loop-e-preserved
loop-e-preserved c = flag_good _ _ _ _ c.loop-e-test.true c.loop-e.invariant (sym c.separates_none.ensures ∙ c.if-not-separates_none.false)

pub returns : goal.returns
returns c = flag_end _ _ _ _ c.loop-e-test.false c.loop-e.invariant
