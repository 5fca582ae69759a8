-- `low` is the least of the offers in the fours before `four`.
use Rattle.std.proofs.Common.{◌*◌}
use Rattle.layout_search.specs.Table.{offered_at, LeastOf}
use Rattle.layout_search.proofs.Offers.least.Given as goal

abbrev pub invariant-loop-four : goal.invariant-loop-four
invariant-loop-four l = LeastOf (offered_at l.self.tails.now l.self.prices.now) (4 * l.four) l.low
