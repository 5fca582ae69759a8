-- The flag is whether the numbers passed so far pass the test with the one after each, whatever test the closure computes (`Chained`).
use Rattle.std.proofs.Common.{◌≡◌, ◌-◌, ℕ, Bool}
use Rattle.slices.proofs.Flags.{Chained}
use Rattle.slices.proofs.neighbours.Given as goal

abbrev pub invariant-loop-i : goal.invariant-loop-i
invariant-loop-i g l =
    (p : ℕ → ℕ → Bool) → ((x y : ℕ) (t : Bool) → goal.F-post g l.pass x y t → t ≡ p x y) → Chained p l.s l.good (l.i - 1)
