-- `Offers::least_from`: one more offer (`least_more`).
use Rattle.layout_search.proofs.MinimumLaws.{least_more}
use Rattle.layout_search.proofs.Offers.least_from.Goals as goal

pub loop-i-preserved : goal.loop-i-preserved
loop-i-preserved c = least_more _ _ _ _ _ c.loop-i.invariant c.at.ensures c.min-low.ensures
