-- `Sums::at` reads the sum's place, and a sum is small (`sum_small`).
use Rattle.std.proofs.Common.{rules, arith}
use Rattle.layout_search.specs.RunningSums.{sum_number, sum_at}
use Rattle.layout_search.proofs.PriceLaws.{number_below, sum_small}
use Rattle.layout_search.proofs.Sums.at.Goals as goal

pub returns-clause-value : goal.returns-clause-value
unfolding sum_at
returns-clause-value c = search rules

pub returns-clause-small : goal.returns-clause-small
unfolding sum_at
returns-clause-small c = let a = c.args in rw c.number.ensures (sum_small a.self.places.now _ a.self.hold (sum_number a.sum) a.j (number_below a.sum) (omega arith))
