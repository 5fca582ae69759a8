-- `theorems::more_calls_bounded` meets its contract: the proofs of the theorems, handed over. Assumes nothing.
use Rattle.theorems.proofs.MoreCalls.{each_cost_bounded, least-cost-planned, least-cost_bounded, old_plan_bounded}
use Rattle.theorems.proofs.more_calls_bounded.Goals as goal

pub returns : goal.returns
returns c = (each_cost_bounded, least-cost-planned, least-cost_bounded, old_plan_bounded)
