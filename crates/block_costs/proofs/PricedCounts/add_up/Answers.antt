-- `PricedCounts::add_up`: the sums of no block are 0 (`first_loaded`).
use Rattle.std.proofs.Common.{arith}
use Rattle.std.proofs.Math.Seq.{length-take-le}
use Rattle.block_costs.proofs.TermLaws.{first_loaded}
use Rattle.block_costs.proofs.PricedCounts.add_up.Goals as goal

pub loop-i-init : goal.loop-i-init
loop-i-init c = first_loaded _ _ _ _ _ _ (c.fill.ensures.after (λ y e. e)) (length-take-le 7 c.args.sums.now (omega arith)) (omega arith)
