-- So many of the numbers passed so far pass the test, whatever test the closure computes (`Counting`).
use Rattle.std.proofs.Common.{◌≡◌, ◌≤◌, ℕ, Bool}
use Rattle.slices.proofs.Scans.{Counting}
use Rattle.slices.proofs.counted.Given as goal

abbrev pub invariant-loop-x : goal.invariant-loop-x
invariant-loop-x g l =
    (l.n ≤ l.x-index) × ((p : ℕ → Bool) → ((x : ℕ) (t : Bool) → goal.F-post g l.pass x t → t ≡ p x) → Counting p l.s l.n l.x-index)
