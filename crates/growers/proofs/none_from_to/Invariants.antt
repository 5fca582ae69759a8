-- `growers::none_from_to`: the flag, and whether all numbers from here on pass the test, is whether all do.
use Rattle.std.proofs.Common.{ℕ, not}
use Rattle.growers.specs.Searches.{from_to}
use Rattle.growers.proofs.none_from_to.Given as goal
use Rattle.slices.proofs.Flags.{Flagged}

abbrev pub invariant-loop-x : goal.invariant-loop-x
invariant-loop-x g l = Flagged (λ (x : ℕ). not (from_to g.W.Way.direction l.fn.g l.fn.last x)) l.fn.s l.none l.x-index
