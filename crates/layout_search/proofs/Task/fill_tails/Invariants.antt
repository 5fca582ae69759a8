-- The tails of the ends before `e` are in place.
use Rattle.std.proofs.Common.{false, get_or}
use Rattle.layout_search.specs.Table.{Tails}
use Rattle.layout_search.specs.Given.{task_given}
use Rattle.layout_search.proofs.Task.fill_tails.Given as goal

abbrev pub invariant-loop-e : goal.invariant-loop-e
invariant-loop-e l = Tails l.self.sums.places.now (task_given l.self) (λ i. get_or l.self.fits.now i false) l.k l.e l.tails
