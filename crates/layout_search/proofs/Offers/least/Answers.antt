-- `Offers::least`: a tree of four more keeps the least (`least_four`).
use Rattle.std.proofs.Common.{ap, ap₂, ◌∙◌, min}
use Rattle.layout_search.proofs.MinimumLaws.{least_four}
use Rattle.layout_search.proofs.Offers.least.Goals as goal

pub loop-four-preserved : goal.loop-four-preserved
loop-four-preserved c =
    least_four _ _ _ _ _ _ _ _ c.loop-four.invariant c.at-w.ensures c.at-x.ensures c.at-y.ensures c.at-z.ensures
    (c.min-low.ensures ∙ ap (min _) (c.min-in-loop-four-2.ensures ∙ ap₂ min c.min.ensures c.min-in-loop-four.ensures))
