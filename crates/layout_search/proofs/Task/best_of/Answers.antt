-- `Task::best_of`: one end more, and past the limit no first partition ends (`reach`).
use Rattle.std.proofs.Common.{arith}
use Rattle.layout_search.specs.Given.{task_given}
use Rattle.layout_search.proofs.FirstLaws.{tried_keep, tried_take, tried_done}
use Rattle.layout_search.proofs.TailLaws.{reach}
use Rattle.layout_search.proofs.Task.best_of.Goals as goal
use Rattle.layout_search.proofs.Task.best_of.Goals.{then-x-number, else-x-number}

pub loop-e-preserved : goal.loop-e-preserved
loop-e-preserved c =
    let o = rw (← c.unwrap_or-x.ensures) at c.candidate.ensures in
    elim c.if-x-number.branch [
      | then-x-number w ↦ rw (w.number-is, w.first-is) (tried_take _ _ _ _ _ _ _ _ c.loop-e.invariant o w.if-x-number.true)
      | else-x-number w ↦ rw (w.number-is, w.first-is) (tried_keep _ _ _ _ _ _ _ _ c.loop-e.invariant o w.if-x-number.false)
    ]

pub returns : goal.returns
returns c =
    let a = c.args in
    tried_done (task_given a.self) _ _ _ _ _ _ c.loop-e.invariant
    (λ d ds l p. omega (arith, reach a.self.sums.places.now a.self.fits.now a.self.longest _ a.k a.a d ds l p, c.end_count.ensures))
