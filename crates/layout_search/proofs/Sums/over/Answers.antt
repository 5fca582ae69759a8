-- `Sums::over`: a sum never falls (`rises`).
use Rattle.std.proofs.Common.{arith}
use Rattle.layout_search.specs.RunningSums.{sum_number}
use Rattle.layout_search.proofs.PriceLaws.{number_below, rises}
use Rattle.layout_search.proofs.Sums.over.Goals as goal

pub overflow_sub-result : goal.overflow_sub-result
overflow_sub-result c =
    let a = c.args in
    omega (arith, rises a.self.places.now _ a.self.hold.rising (sum_number a.sum) a.a a.e (number_below a.sum) (omega arith) (omega arith))
