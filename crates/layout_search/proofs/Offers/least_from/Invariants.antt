-- `low` is the least of the offers before `i`.
use Rattle.layout_search.specs.Table.{offered_at, LeastOf}
use Rattle.layout_search.proofs.Offers.least_from.Given as goal

abbrev pub invariant-loop-i : goal.invariant-loop-i
invariant-loop-i l = LeastOf (offered_at l.self.tails.now l.self.prices.now) l.i l.low
